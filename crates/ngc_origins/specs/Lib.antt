pub mod Texts
pub mod Placed
pub mod Lines
