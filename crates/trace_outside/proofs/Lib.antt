pub mod Gains
pub mod Copying
pub mod Fills
pub mod PendingLemmas
pub mod Keeping
pub mod Putting
pub mod OpenFiles
mod Unwritten
