pub mod Body
pub mod Calls
pub mod Lists
pub mod Names
pub mod Seen
pub mod Table
