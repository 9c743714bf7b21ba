pub mod Rings
pub mod Trials
