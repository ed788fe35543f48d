pub mod Lines
pub mod Axes
pub mod File
