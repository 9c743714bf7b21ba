pub mod Imaged
pub mod Opening
pub mod Standing
