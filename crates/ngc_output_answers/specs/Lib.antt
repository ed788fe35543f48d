pub mod Faults
pub mod Answers
