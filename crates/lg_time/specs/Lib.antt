pub mod Canonical
pub mod Moment
pub mod Texts
