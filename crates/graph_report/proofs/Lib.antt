pub mod Spaces
pub mod LineEnds
pub mod CallLines
pub mod Taken
