pub mod Stands
pub mod Changes
