pub mod Numbers
pub mod Pieces
pub mod Roots
pub mod Spots
pub mod Stretches
