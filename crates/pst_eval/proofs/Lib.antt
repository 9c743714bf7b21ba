pub mod Blocks
pub mod Elements
pub mod Loops
pub mod Ready
pub mod ReadyValues
pub mod ValueElements
