pub mod Refused
pub mod Said
pub mod Notes
pub mod Faults
pub mod Calls
