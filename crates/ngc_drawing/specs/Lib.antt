pub mod Holes
pub mod Bodies
pub mod Sweeping
pub mod Labels
pub mod Pictures
pub mod Faults
