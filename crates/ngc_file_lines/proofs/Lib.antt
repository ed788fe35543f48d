-- The number of bytes at the beginning of a text.
pub mod Counts
-- The lines of a file, in order.
pub mod Steps
-- What holds of the line that is found.
pub mod Kept
