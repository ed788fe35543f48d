-- The job of a program for another control.
pub mod Job
-- The headline for programs for other controls.
pub mod Headline
