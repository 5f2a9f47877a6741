pub mod LineLength
pub mod Formats
pub mod Shared
