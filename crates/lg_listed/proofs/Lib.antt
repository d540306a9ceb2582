pub mod AmountLemmas
pub mod AppendLemmas
pub mod EntryLemmas
pub mod FollowLemmas
pub mod KeptLemmas
pub mod ScanLemmas
pub mod ShardLemmas
pub mod TotalLemmas
