-- what callers see
pub mod State
pub mod Shown
pub mod Next
pub mod Holdings
pub mod Following
pub mod FollowingLaws
-- what is kept
pub mod Accounts
pub mod Histories
pub mod Named
pub mod Sides
pub mod Names
pub mod Ties
pub mod Held
