-- what callers see
pub mod Events
pub mod Plans
pub mod Laws
-- what is kept
pub mod Steps
pub mod Resources
pub mod Stages
