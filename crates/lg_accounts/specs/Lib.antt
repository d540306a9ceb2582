pub mod Volumes
pub mod Dates
