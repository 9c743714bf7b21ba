pub mod TextLemmas
pub mod WriteLemmas
pub mod ReadLemmas
