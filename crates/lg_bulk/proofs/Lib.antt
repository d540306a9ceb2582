pub mod ElementLemmas
pub mod BatchLemmas
pub mod GroundLemmas
pub mod KeptLemmas
pub mod ListLemmas
pub mod PlanLemmas
pub mod VolumeLemmas
pub mod TriedLemmas
