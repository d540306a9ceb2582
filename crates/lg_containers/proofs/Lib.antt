pub mod Each
pub mod Placed
pub mod Reading
pub mod Tables
