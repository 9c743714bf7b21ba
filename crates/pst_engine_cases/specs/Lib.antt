pub mod Bare
pub mod Twins
