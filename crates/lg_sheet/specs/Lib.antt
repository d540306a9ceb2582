pub mod Back
pub mod Lines
pub mod Trials
pub mod Working
