pub mod Places
pub mod Heights
pub mod Kept
pub mod Holes
pub mod Moves
