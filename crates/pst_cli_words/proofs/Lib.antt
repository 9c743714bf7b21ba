pub mod Numerals
pub mod Asking
