pub mod Gathering
pub mod Faults
