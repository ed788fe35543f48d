-- The piece of a line that a point of it is in, and the heights along a line.
pub mod Pieces
-- What is under the heights of a map after a motion isn't swept by it.
pub mod Sinking
-- A cell that a probe finds shows material in the way of a cylinder.
pub mod Seeing
-- The state before each command, and the contacts of the traverses that were found.
pub mod Walking
-- The parts of a tool, one after another.
pub mod Bodies
