-- Rounding is monotonic.
pub mod Rounded
-- If a box of points is clear, each box within it is clear.
pub mod ClearBoxes
-- The boxes of a path rise with its ends.
pub mod PathBoxes
-- The swept box of an arc that moves as a whole.
pub mod ArcShifts
-- The clear pieces of a line are not refused.
pub mod ClearPieces
-- A program that holds over a box of shifts holds over each box within it, and has motions at each
-- of its shifts.
pub mod HoldsLaws
-- Quotients by a step, and their conversion to 32 bits.
pub mod Quotients
-- The tests of the pieces of a line and of the commands of a program, in order.
pub mod Tests
-- Intervals that grow on one side and then on the other are the longest.
pub mod GrowingIntervals
-- The greatest number of steps by which an interval can grow, found action by action.
pub mod GrowthTests
-- Programs with the same commands and marks fit where one of them does.
pub mod SamePrograms
-- Worked programs on a mill with steps of 0.01 mm, by computing the definitions.
mod Examples
-- The marks of a program's commands, in order.
pub mod MarkLaws
-- The shifts that are tried, in order.
pub mod TriedShifts
