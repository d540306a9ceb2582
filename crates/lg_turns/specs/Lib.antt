pub mod Rules
pub mod Stripes
pub mod Rows
pub mod Passes
