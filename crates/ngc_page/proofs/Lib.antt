-- A file in memory can always be read.
pub mod FileReading
-- The result of a command whose files are in memory.
pub mod InMemory
-- Options that a pattern binds are those that were made.
pub mod BoundOptions
-- Words that have no line breaks are the lines of their text.
pub mod LinesRead
-- What a call with its job file returns, where every file is in memory.
pub mod JobReading
