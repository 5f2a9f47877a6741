pub mod Formats
pub mod Positions
pub mod RolePlaces
