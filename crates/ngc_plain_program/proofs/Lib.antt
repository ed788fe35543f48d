-- The text of kept lines, and whether they are short.
pub mod Lines
