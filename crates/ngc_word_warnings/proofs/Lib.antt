-- The mistakes over lines, one line further.
pub mod MistakeSteps
-- The feeds with the offset of another tool, one command further.
pub mod StaleSteps
