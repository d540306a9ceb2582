pub mod Endings
pub mod Asking
