pub mod Keeping
pub mod Payments
