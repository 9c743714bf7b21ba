pub mod Refused
pub mod Verdicts
