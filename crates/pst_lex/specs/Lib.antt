pub mod Bytes
pub mod Words
pub mod Lexing
pub mod Taking
pub mod Pieces
