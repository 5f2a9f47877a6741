pub mod Fills
pub mod Forms
pub mod Gathered
pub mod Integers
pub mod Plain
pub mod Shows
pub mod Texts
