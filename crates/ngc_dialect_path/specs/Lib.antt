pub mod Paths
pub mod Refusing
pub mod Lines
pub mod Beginning
pub mod Targets
pub mod Writing
pub mod Steps
