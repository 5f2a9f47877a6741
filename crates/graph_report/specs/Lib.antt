pub mod CallText
pub mod Roles
pub mod Gathered
pub mod CallGatherers
