pub mod Counting
pub mod Handed
pub mod Keeping
pub mod LineStores
pub mod Outputs
pub mod RowLemmas
pub mod Serving
