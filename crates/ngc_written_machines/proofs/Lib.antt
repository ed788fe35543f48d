-- Steps in whole nanometres, rounded down.
pub mod Steps
