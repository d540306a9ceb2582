mod Filters
pub mod Gathering
pub mod Suffixes
