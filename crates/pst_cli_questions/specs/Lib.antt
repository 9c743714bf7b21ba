pub mod Accepted
pub mod Asking
pub mod Laws
pub mod Telling
pub mod Worked
