pub mod Apart
pub mod AskRows
pub mod Behind
pub mod Finding
pub mod Names
pub mod Telling
pub mod Types
pub mod Worked
