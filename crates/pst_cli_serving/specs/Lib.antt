pub mod Held
pub mod Laws
pub mod Lining
pub mod Output
pub mod Replaying
pub mod Rows
pub mod Serving
pub mod Storing
