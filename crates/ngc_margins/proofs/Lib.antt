-- Tests that are true.
pub mod Tests
-- The laws of margins.
pub mod MarginLaws
-- Fixtures that are made larger one at a time.
pub mod GrownFixtures
-- A machine whose margins are kept is in the range of machines.
pub mod KeptRanges
