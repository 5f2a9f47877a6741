pub mod Cutting
pub mod SideBySide
pub mod Allowing
