pub mod LiveFaults
pub mod Feeding
pub mod Living
