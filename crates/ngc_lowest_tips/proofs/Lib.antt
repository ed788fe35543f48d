-- Worked heights, by evaluating the definitions.
pub mod Examples
-- The texts of lowest heights, one height further.
pub mod Ahead
