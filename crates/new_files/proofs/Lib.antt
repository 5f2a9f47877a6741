pub mod Placing
pub mod Unmade
