-- Lowest heights, one after the other added to those so far.
pub mod Added
