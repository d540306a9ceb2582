pub mod Prefixes
pub mod Eachs
pub mod MarkedLists
pub mod Shares
pub mod MoveSums
pub mod StripeKnows
pub mod Limits
pub mod Digests
