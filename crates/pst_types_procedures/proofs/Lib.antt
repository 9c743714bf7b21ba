pub mod Held
pub mod Parts
pub mod Few
pub mod Noted
