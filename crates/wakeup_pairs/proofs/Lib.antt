pub mod Places
pub mod Partners
pub mod Passing
pub mod Maps
pub mod Extremes
