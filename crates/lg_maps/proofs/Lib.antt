pub mod Behind
pub mod Changed
pub mod Chosen
pub mod Kept
pub mod Moving
pub mod Shown
pub mod Taken
