-- The division of a message, with the next 32 coefficients as a number.
pub mod Division
-- The sums of data, as they come.
pub mod Summed
-- Texts that are written in two steps.
pub mod Written
-- The parts of a chunk, as they are collected.
pub mod Chunks
-- Data in blocks, as they come.
pub mod Blocked
-- The colours and the pixels of a picture, in order.
pub mod Rows
-- A whole picture, from its parts.
pub mod Pictures
