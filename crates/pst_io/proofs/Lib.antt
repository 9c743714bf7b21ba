pub mod Parts
pub mod TextLemmas
pub mod Handing
pub mod Going
