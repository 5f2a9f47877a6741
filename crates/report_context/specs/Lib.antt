pub mod Context
pub mod Lines
