pub mod Texts
pub mod Entries
pub mod Lists
pub mod Summary
pub mod RowText
pub mod Dump
