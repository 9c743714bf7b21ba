pub mod Repeats
pub mod Rings
pub mod Stamps
pub mod Started
pub mod StartedRings
pub mod Trying
