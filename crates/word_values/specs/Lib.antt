pub mod Cut
pub mod Number
pub mod CpuList
pub mod Moments
pub mod Pieces
pub mod Sections
pub mod Listings
pub mod Views
