pub mod BoundRows
pub mod Bindings
pub mod Conditions
pub mod NamedSteps
pub mod Numbered
pub mod Placed
pub mod Shows
pub mod UseCode
