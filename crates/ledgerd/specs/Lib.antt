pub mod Codes
pub mod Errors
pub mod Limits
pub mod Top
pub mod Words
