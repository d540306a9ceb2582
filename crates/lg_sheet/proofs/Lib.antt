pub mod BookLemmas
pub mod LineLemmas
pub mod OrderLemmas
pub mod SheetLemmas
pub mod TrialLemmas
pub mod WorkingLemmas
