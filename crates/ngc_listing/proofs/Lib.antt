-- A listing that is partly written; the next lines are collected first.
pub mod Progress
