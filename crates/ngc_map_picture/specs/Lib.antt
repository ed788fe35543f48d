pub mod Checks
pub mod Registers
pub mod Blocks
pub mod Streams
pub mod Png
pub mod Maps
