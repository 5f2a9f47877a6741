pub mod FilesBehind
pub mod FilesKept
pub mod Making
pub mod Answered
pub mod Unread
pub mod Failures
pub mod Reading
pub mod Asking
