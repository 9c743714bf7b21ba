pub mod Benching
pub mod LineLemmas
pub mod Summing
pub mod WorkedLemmas
