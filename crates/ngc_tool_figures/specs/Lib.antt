pub mod Dives
pub mod Moments
pub mod Feedings
pub mod Holes
pub mod Ticks
pub mod Texts
