pub mod Tasks
pub mod When
