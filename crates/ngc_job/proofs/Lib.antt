-- The stored values are the program's job.
pub mod JobLaws
