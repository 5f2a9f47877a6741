pub mod CommonFields
pub mod FieldKinds
pub mod Format
pub mod Table
