pub mod Alike
pub mod LawsLines
pub mod Lines
pub mod Openings
pub mod TakenUp
