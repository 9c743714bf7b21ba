pub mod Disk
pub mod Ready
