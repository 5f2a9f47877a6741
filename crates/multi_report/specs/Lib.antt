pub mod Order
pub mod Merge
pub mod Sources
pub mod Reports
pub mod Nexts
pub mod Taking
pub mod Turns
