-- Tests of whole numbers.
pub mod Tests
-- Something is counted exactly if it is found.
pub mod CountedAtAll
-- The result over a list, one element further.
pub mod Folds
-- The commands concerned, counted one by one.
pub mod CommandCounts
-- The machine's state some commands further.
pub mod Causes
-- A difference of two coordinates fits in 64 bits.
mod DifferenceRange
