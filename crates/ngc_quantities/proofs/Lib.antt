-- The number of bytes at the beginning of a text, and the last operator of a text.
pub mod Counts
pub mod Operators
