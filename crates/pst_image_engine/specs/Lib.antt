pub mod Orders
pub mod Counted
pub mod Left
pub mod Opens
