pub mod Numbers
pub mod Meant
pub mod Escapes
pub mod Letters
pub mod Pushing
