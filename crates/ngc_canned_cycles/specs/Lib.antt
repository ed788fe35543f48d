pub mod Faults
pub mod Heights
pub mod Holes
pub mod Refusals
pub mod Moves
pub mod Reach
