pub mod Faults
pub mod Setups
pub mod Shops
pub mod Unread
pub mod Jobs
pub mod Judging
