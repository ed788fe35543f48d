-- The lines that a piece of a text completes.
pub mod ArrivalLaws
-- The text of an event is read as the event, and only that text is.
pub mod EventLaws
-- The first line feed among bytes.
pub mod FirstFeed
-- Where the first line of a text ends.
pub mod LineFeeds
-- Reading lines in order.
pub mod ReadLaws
-- The text of a list of events is read as the list, and only that text is.
pub mod SpellingLaws
