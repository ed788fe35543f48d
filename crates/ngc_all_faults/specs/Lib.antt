pub mod Emptied
pub mod Faults
