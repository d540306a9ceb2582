-- what callers see
pub mod Decisions
pub mod Looking
-- how it is decided
pub mod Deciding
