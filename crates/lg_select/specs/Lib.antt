pub mod Listing
pub mod Selecting
