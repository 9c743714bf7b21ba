pub mod View
pub mod Added
pub mod Bodies
