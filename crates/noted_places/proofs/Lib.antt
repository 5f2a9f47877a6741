pub mod NotedLemmas
pub mod NotedLaws
pub mod Rooms
