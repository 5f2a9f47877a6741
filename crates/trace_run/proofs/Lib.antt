pub mod Said
pub mod Endings
pub mod GeneratedReport
pub mod SelfTested
pub mod TopicTold
pub mod Reading
pub mod Filters
pub mod JobsRan
