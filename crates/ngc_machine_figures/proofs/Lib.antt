-- The text of an unknown key, the first key of a table that is unknown, the number of items of an
-- array, and sums of lengths.
pub mod Words
pub mod UnknownKeys
pub mod Items
pub mod Sums
