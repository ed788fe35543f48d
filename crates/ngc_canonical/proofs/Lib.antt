-- A program's lines, in order.
pub mod Lines
-- Moves in order.
pub mod CycleLaws
-- An arc begins and ends at the points of its words.
pub mod ArcLaws
-- Each step of a program continues the motions from where the axes are, its arcs have even radii,
-- and the number of commands stays in range.
pub mod JoinedMotions
-- Each effect continues the motions from where the axes are, with even radii, and the number of
-- commands stays in range.
pub mod JoinedSteps
-- The lines of a program join its motions from the machine's start point on, with even radii, and
-- the number of commands stays in range.
pub mod JoinedLines
-- Among a line's effects, only the last one stops.
pub mod Ending
-- Only a stop adds an end, and that end ends the program.
pub mod EndingSteps
-- A program ends with the end, and nothing is executed after it.
pub mod EndingLines
-- If no line begins with /, block delete changes nothing.
pub mod BlockDelete
