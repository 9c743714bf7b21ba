pub mod Promises
pub mod Handing
pub mod Sizes
