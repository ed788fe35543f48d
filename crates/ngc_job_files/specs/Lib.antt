pub mod Paths
pub mod Jobs
pub mod Clamps
