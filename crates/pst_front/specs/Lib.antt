pub mod Verdict
pub mod Pages
pub mod Reasons
pub mod Laws
