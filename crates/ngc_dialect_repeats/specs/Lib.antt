pub mod Refusals
pub mod Barred
pub mod Kept
pub mod Points
pub mod Places
pub mod Polar
pub mod Turns
