pub mod Words
pub mod Offsets
pub mod Slips
pub mod Spelling
