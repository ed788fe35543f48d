-- The results of certifying and checking a program, from the results of their parts.
pub mod JobLaws
-- The checker's verdict on the program of one file and the certificate of another, from its verdict
-- on the certificate's text.
pub mod JudgingLaws
-- Statements about a file's text, and about the contents of a run's files.
pub mod SetupLaws
-- The file of a run that isn't read, from the reports on each file.
pub mod UnreadLaws
