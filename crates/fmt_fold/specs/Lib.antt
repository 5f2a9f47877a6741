pub mod Same
pub mod Constants
pub mod Folded
