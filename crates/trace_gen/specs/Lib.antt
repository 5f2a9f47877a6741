pub mod Generated
pub mod At
pub mod GeneratedHeader
pub mod GeneratedFile
pub mod Summary
