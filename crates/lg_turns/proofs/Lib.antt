pub mod Totals
pub mod Keeping
pub mod Bits
pub mod Touched
pub mod Places
pub mod Stages
pub mod Joined
pub mod Fronts
