pub mod Padding
pub mod Requested
pub mod Stored
