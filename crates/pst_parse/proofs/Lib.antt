pub mod Atoms
pub mod Kept
pub mod Opened
pub mod Parsed
pub mod Taken
pub mod Windows
