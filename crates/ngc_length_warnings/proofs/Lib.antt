-- The mistakes over commands, one command further.
pub mod MistakeSteps
-- The first cut among commands, one command further.
pub mod CutSteps
-- Worked programs, by evaluating the definitions.
pub mod Examples
