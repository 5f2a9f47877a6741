pub mod InputNames
pub mod Opening
pub mod OpenInputs
pub mod FilesShown
pub mod FilesRan
pub mod Unread
pub mod EmptyParts
