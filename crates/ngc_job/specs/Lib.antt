-- The definition of a job.
pub mod Job
