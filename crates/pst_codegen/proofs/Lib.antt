pub mod Typed
pub mod Whole
