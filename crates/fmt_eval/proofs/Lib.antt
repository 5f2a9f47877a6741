pub mod Reductions
pub mod Elements
pub mod Rows
pub mod PieceLemmas
pub mod FlagLemmas
pub mod FlagSteps
pub mod ReducedLaws
pub mod ReadLemmas
