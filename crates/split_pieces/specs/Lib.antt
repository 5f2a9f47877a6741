pub mod Cuts
pub mod Examples
pub mod Gauging
pub mod Moments
pub mod Pieces
pub mod Allowing
