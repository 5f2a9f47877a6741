pub mod Restorings
pub mod RestoreNames
