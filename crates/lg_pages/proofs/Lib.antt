pub mod Cursors
pub mod Limits
pub mod Sizes
