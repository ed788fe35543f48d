pub mod Vcd
pub mod Dumping
pub mod Samples
pub mod Sampling
