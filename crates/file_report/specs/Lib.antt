pub mod Lists
pub mod Report
pub mod Meaning
pub mod Due
pub mod Reported
