pub mod Drawn
pub mod Written
pub mod Fronts
pub mod Laid
pub mod Weighed
