pub mod Levels
pub mod Holes
pub mod Moves
pub mod Refusals
pub mod Walk
pub mod Laws
