pub mod Roles
pub mod Matter
pub mod Section
