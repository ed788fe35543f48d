pub mod Saved
pub mod Sources
