pub mod Words
pub mod Numerals
pub mod Commands
pub mod Texts
pub mod Spelled
