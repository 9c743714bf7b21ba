pub mod Answers
pub mod Taking
pub mod Window
