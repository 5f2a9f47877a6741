pub mod Numeral
pub mod Escape
pub mod Quoted
pub mod Pushed
pub mod Types
pub mod Views
