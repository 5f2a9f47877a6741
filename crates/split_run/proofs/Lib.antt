pub mod Taken
pub mod Splits
pub mod Requested
