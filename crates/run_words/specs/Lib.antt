pub mod Job
pub mod Allowed
pub mod Readings
pub mod Usage
pub mod UsageView
