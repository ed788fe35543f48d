pub mod Offsets
pub mod Ranges
pub mod Faults
pub mod Frames
pub mod Given
