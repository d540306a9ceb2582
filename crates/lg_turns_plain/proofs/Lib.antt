pub mod Growing
pub mod Paid
