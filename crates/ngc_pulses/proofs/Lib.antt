-- Changes, added in order.
pub mod AddedChanges
-- A dump from tick to tick is that of all pulses.
pub mod Dumps
-- A dump after a tick with a pulse.
pub mod DumpSteps
-- Text that is collected and written, part by part.
pub mod CollectedText
-- Samples from tick to tick are those of all pulses.
pub mod SampleLaws
-- Hardware reads the pulses from samples.
pub mod ReadBack
