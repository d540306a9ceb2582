pub mod LentLists
pub mod DoneCalls
pub mod FreshShards
