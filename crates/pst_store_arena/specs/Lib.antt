pub mod Calls
pub mod Kept
pub mod Codes
pub mod Writes
