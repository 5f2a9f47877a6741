pub mod Pairs
pub mod Gathered
pub mod GatheredCode
pub mod Figures
