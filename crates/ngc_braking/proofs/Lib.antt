-- The braking distance, tick by tick.
pub mod Ticks
-- The braking distance: a sum with a closed form.
pub mod BrakingLaws
-- Work: what a tick uses, and what another change costs.
pub mod WorkLaws
-- The rule for braking: for more legs, after a tick, and where the braking distance is short.
pub mod AheadLaws
-- What may be needed beyond a leg, in 64 bits and in distances, and the tests of a rate.
pub mod BeyondLaws
-- The summary of the motions ahead: from load to load, and as motions leave.
pub mod OutlookLaws
-- How far the path is free.
pub mod ReachLaws
-- The rule for legs that all have one change.
pub mod OneChangeLaws
-- Worked rows of the definitions.
mod Worked
