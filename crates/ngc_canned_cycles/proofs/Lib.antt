-- Lists that are made peck by peck, and how deep pecks go.
pub mod Pecks
-- Coordinates between those of the first and the last repeat.
pub mod Range
-- The moves of a cycle stay within the machine's reach.
pub mod Reach
