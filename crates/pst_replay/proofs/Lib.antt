pub mod Counting
pub mod Numbers
pub mod Opening
pub mod Paths
pub mod Progress
pub mod Queries
pub mod Totals
