pub mod Bench
pub mod Script
pub mod Worked
