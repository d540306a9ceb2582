pub mod EntryLemmas
pub mod GroundLemmas
pub mod KeptLemmas
pub mod LogCounts
pub mod PlanLemmas
pub mod ResourceLemmas
pub mod RevertLemmas
pub mod WriteLemmas
