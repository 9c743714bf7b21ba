pub mod Causes
pub mod Memory
pub mod Taken
pub mod Text
pub mod Input
pub mod Lines
