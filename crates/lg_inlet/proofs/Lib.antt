pub mod FindingLemmas
pub mod PassingEnds
pub mod PassingLemmas
pub mod TakingLemmas
