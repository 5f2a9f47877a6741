pub mod Bytes
pub mod Number
pub mod PartsView
pub mod Quoted
pub mod Mark
pub mod Reading
pub mod Tokens
