pub mod Names
pub mod Outputs
