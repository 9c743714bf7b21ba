pub mod Alone
pub mod Built
pub mod Counting
pub mod Deciding
pub mod Forks
pub mod Lists
pub mod Placing
