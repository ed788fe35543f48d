-- A place that is added to a table of places.
pub mod PlaceLaws
-- One more line of the pass over a program.
pub mod PassLaws
-- The names that a return sets, and the end of the call.
pub mod ReturnLaws
-- There is room for one more.
pub mod Room
-- Each step takes one unit of fuel.
pub mod FuelLaws
-- A return goes to the line after its call.
pub mod CallLaws
