pub mod Words
pub mod Seen
