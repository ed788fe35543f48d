-- The breaches over commands, one command further.
pub mod BreachSteps
