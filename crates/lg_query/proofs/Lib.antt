pub mod Dates
pub mod Numbered
pub mod Asked
pub mod Ready
