-- Tokens without their columns.
pub mod TokenLemmas
-- Bytes and their letters.
pub mod LetterLemmas
-- No text has two readings.
pub mod UniqueReading
-- No text has two readings: items, and the whole line.
pub mod UniqueLine
-- The number of leading digits.
pub mod Digits
-- One step of the readers, if the bound allows it.
pub mod Scanning
-- A text that is written for a value is read as that value.
pub mod ReadsBack
-- A value that is read is written as the text.
pub mod ValueTexts
-- A number's digits, rounded to millionths.
pub mod Rounded
-- One byte of a line's text.
pub mod TextBytes
-- One item of a line, if the bound allows it.
pub mod LineItems
-- Reading lines, in both directions.
pub mod ReadLines
-- Why a line is refused for one of its limits.
pub mod RefusedLines
-- Texts, readings and faults of lines: worked examples, evaluated.
mod Examples
-- Worked examples of files, evaluated.
mod FileExamples
-- Leading white space changes no text, so the bytes tell whether a line is blank or a percent line.
pub mod Blanks
-- A line that was read has a reading within the limits, and so have the stored lines.
pub mod Readings
-- Stored lines: the effect of a push, and the position of a line.
pub mod LinesInStore
-- Symbols that are stored as their kinds and their numbers.
pub mod KeptSymbols
-- Words whose values are numbers: those of a line without settings that has a token for each word.
pub mod NumberWords
-- The stored contents of lines: the effect of a push, and their meaning.
pub mod KeptLines
-- The lines of some bytes, and the first line feed among them.
pub mod Feeds
-- The lines of a file, one by one, and the result of the whole file.
pub mod LineWalk
-- The result of reading a line or a piece of one.
pub mod TakenPieces
-- The effect of a piece on a reader.
pub mod Pieces
