pub mod Switched
pub mod Modes
pub mod Restoring
pub mod Savings
pub mod Stack
