pub mod EventLemmas
pub mod PlanLemmas
pub mod ShardLemmas
pub mod StepLemmas
pub mod StripeLemmas
pub mod Entering
