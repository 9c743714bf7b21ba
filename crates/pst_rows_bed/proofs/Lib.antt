pub mod BedLemmas
pub mod OrderLemmas
