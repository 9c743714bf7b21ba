pub mod Standing
pub mod Staged
pub mod Checks
pub mod Kept
pub mod Opening
pub mod Lives
