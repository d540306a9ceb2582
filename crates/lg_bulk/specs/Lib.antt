pub mod Gathering
pub mod Changes
