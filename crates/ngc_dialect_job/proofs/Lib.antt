-- What is accepted of a program for another control runs safely.
pub mod Headline
-- The stored values are the job of the program's text.
pub mod DialectJobLaws
