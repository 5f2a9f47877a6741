pub mod Mattering
pub mod NoNewline
pub mod ThreePuts
