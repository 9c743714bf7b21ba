pub mod Days
pub mod Left
pub mod Opening
pub mod Pack
pub mod Packing
pub mod Repack
pub mod Repacking
pub mod Resuming
