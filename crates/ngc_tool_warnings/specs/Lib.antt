pub mod Betweens
pub mod Slips
pub mod Spelling
