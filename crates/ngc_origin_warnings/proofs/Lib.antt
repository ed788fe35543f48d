-- The warnings of commands, one command further.
pub mod WarningProgress
