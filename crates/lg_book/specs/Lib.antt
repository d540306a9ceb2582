-- what callers see
pub mod Booked
pub mod FirstVolumes
pub mod Following
pub mod Reading
pub mod EntryLaws
-- how it is kept
pub mod Index
pub mod Writing
-- a worked example
pub mod Examples
