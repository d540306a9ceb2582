pub mod Buffered
pub mod Escapes
pub mod Feeds
pub mod Slices
pub mod Writing
