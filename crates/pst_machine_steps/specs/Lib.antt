pub mod View
pub mod Live
pub mod Calls
pub mod Fields
pub mod Steps
