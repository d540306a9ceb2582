pub mod Buffering
pub mod Feeding
pub mod Growth
pub mod Reading
pub mod Texts
pub mod Told
pub mod Volumes
pub mod Waiting
