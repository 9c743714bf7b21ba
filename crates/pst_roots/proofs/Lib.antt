pub mod PieceLemmas
pub mod RootLemmas
pub mod StretchLemmas
