pub mod CommonFields
pub mod Formats
pub mod Ids
pub mod Tables
pub mod Fronts
