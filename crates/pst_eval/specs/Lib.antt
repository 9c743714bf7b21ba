pub mod Answers
pub mod Ends
pub mod Flows
pub mod Runs
pub mod Work
