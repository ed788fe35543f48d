-- The line of a job file that added something.
pub mod Noted
-- What a call with its job file returns.
pub mod Outcomes
-- What is said of a job file that is no document, or is one.
pub mod Stopped
