pub mod WordLemmas
pub mod NumeralLemmas
pub mod CallLemmas
pub mod SpelledLemmas
pub mod CommandLemmas
