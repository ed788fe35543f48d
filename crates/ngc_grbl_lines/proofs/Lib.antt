-- The number of leading bytes of one kind.
pub mod Counted
-- The lines of a text, in order.
pub mod LineLaws
