pub mod Input
pub mod Pieces
pub mod Script
pub mod Kept
pub mod Reading
pub mod Sessions
