pub mod Inputs
pub mod Meaning
pub mod Naming
pub mod OpenInput
pub mod Opened
pub mod Reported
pub mod Ran
