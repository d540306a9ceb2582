pub mod ElementLists
pub mod Hashes
pub mod Onward
pub mod Readings
