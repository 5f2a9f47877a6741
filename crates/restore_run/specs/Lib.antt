pub mod Restore
pub mod Naming
pub mod Ran
