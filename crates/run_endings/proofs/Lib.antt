pub mod Printing
pub mod Printed
pub mod Chosen
pub mod Endings
pub mod Reading
pub mod Names
pub mod Faultless
pub mod Requesting
