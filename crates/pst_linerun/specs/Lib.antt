pub mod Linear
pub mod Standing
pub mod Carried
pub mod Worked
