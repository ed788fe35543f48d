pub mod Meaning
pub mod Evaluate
pub mod EvaluateView
pub mod Stored
pub mod Fault
