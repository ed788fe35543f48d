-- One more event of a line, and one more line.
pub mod EventProgress
-- A run that continues from piece to piece of its events' text.
pub mod LiveLaws
-- A line of a piece, and then the bytes that are left of it.
pub mod LineLaws
-- How a machine that is held comes to rest.
pub mod RestLaws
-- The processed events for sent ones, if a ring is fed.
pub mod FeedingLaws
-- Events from a source, piece by piece.
pub mod LiveSources
