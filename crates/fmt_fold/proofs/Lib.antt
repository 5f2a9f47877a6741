pub mod Parts
pub mod Written
pub mod Fixed
pub mod Settled
pub mod Folds
pub mod Runs
