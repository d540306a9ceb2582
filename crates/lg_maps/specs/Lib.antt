pub mod Behind
pub mod Chosen
pub mod Contents
pub mod Moved
pub mod Searching
