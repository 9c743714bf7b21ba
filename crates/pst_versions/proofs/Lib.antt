pub mod ClientLemmas
pub mod StateLemmas
