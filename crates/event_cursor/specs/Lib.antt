pub mod Keys
pub mod Standing
pub mod Unread
pub mod Fetched
pub mod Loading
pub mod Stepping
pub mod Passing
pub mod Places
