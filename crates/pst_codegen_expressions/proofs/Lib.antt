pub mod Bridge
pub mod Lengths
pub mod Noting
pub mod Rows
pub mod Turns
