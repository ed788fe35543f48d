pub mod Stretches
pub mod Spans
pub mod Grids
