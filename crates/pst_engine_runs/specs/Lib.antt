pub mod Coded
pub mod Bare
pub mod Runs
pub mod Stands
pub mod Changes
pub mod Refused
