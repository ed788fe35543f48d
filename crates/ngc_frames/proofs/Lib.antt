-- A frame is the same as itself.
pub mod SameFrame
-- From line to line of a program.
pub mod LineSteps
-- Converting between the program's coordinates and the machine's.
pub mod Points
-- Texts that are collected in order, from each of them.
pub mod CollectedTexts
