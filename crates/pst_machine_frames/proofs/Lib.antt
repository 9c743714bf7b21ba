pub mod Moving
pub mod Acting
pub mod Fitting
pub mod Reading
