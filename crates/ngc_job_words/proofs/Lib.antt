-- The folder of a name, byte by byte from its end.
pub mod Ends
-- Tests of a list's elements by what they hold.
pub mod Anys
-- What is after a prefix.
pub mod Prefixes
-- The words before a place, and one word more.
pub mod Steps
