pub mod Uses
pub mod Breaches
pub mod Spelling
