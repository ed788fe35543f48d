-- Stored motions: each of them, and one more.
pub mod HeldMotions
-- Entries and their motions: each of them, and one more.
pub mod OrderOfEntries
-- Motions of both settings, with the first ones joined, as entries.
pub mod JoinedFirst
-- The remaining entries, one by one.
pub mod RemainingEntryLaws
-- Lines that are read.
pub mod LinesTaken
-- The text of a signed number reads as the number, and a text that reads as a number is the
-- number's text.
pub mod SignedNumbers
-- Fields between single spaces, and lines between line feeds.
pub mod Fields
-- A line's text has the line's content, and a text with this content is the line's text.
pub mod SpelledLines
-- The text of a certificate reads as it, and a text that reads as a certificate is its text.
pub mod SpelledTexts
-- Numbers that are read up to a bound, and the end of a field.
pub mod BoundedNumbers
-- The numbers of fields, gathered one by one.
pub mod FieldNumbers
-- Steps that fit in 32 bits, and boxes of six of them.
pub mod StepLemmas
-- The contents of numbers, put together from their parts.
pub mod PartLemmas
-- A number out of every range may be replaced with another such number.
pub mod NumbersOutOfRange
-- The content of a line, by its first words.
pub mod WordLemmas
-- The content of a line of version 2, by its first word.
pub mod EntryWords
-- The first line feed among bytes.
pub mod Feeds
-- The result of a line in front of the rest.
pub mod LinesAhead
-- The content of a line is the result of the text.
pub mod NextLines
-- What a line adds to the part read so far.
pub mod AddedLines
-- Bytes that are split into lines.
pub mod LineSplitting
-- The effect of more bytes on the lines so far.
pub mod LinesSoFar
-- The effect of a piece on a reader of a certificate's text.
pub mod Pieces
-- A certificate that is returned has the motions of its form.
pub mod ReturnedCertificates
-- The contents of small texts.
mod Examples
-- Text that is collected and written from the front, one text at a time.
pub mod CollectedTexts
-- A certificate's text, while its parts are collected and written.
pub mod WrittenCertificate
-- The entries of a certificate in memory, in order.
pub mod EntryOrder
