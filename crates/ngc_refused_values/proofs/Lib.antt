-- The last word so far, one line further.
pub mod LastWordSteps
