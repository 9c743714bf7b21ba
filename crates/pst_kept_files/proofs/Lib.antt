pub mod CheckLemmas
pub mod StageLemmas
pub mod HeadLemmas
pub mod StandingLemmas
pub mod KeepLemmas
pub mod OpenLemmas
pub mod LifeLemmas
