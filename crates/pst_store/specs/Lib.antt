pub mod Codes
pub mod Calls
pub mod Whole
pub mod ForkLists
