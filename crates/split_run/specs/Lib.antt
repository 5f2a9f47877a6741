pub mod Split
pub mod Leaves
