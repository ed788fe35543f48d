pub mod Movement
pub mod ProgramPath
pub mod Sequence
pub mod Reached
