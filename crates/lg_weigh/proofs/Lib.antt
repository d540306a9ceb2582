pub mod KeptLemmas
pub mod LentLemmas
pub mod StripeLemmas
pub mod TotalLemmas
pub mod WeighLemmas
