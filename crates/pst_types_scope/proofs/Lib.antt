pub mod Lookups
pub mod Added
pub mod Targets
