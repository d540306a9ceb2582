-- what callers see
pub mod Elements
-- how it is tried
pub mod Amounts
pub mod Trying
