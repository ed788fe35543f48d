-- What is said of the remaining commands, after what is said of one.
pub mod Remaining
