pub mod Lent
pub mod Reach
pub mod Totals
pub mod Trials
pub mod Weighing
