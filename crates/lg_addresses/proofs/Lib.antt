pub mod Orders
pub mod Firsts
pub mod Stripes
pub mod Listed
pub mod Sorted
pub mod Dated
