pub mod Cutters
pub mod Limits
pub mod Files
