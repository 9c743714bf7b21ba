pub mod Versions
pub mod Counted
pub mod Left
pub mod Engines
pub mod Opens
