-- The numeral that is written for a value has this value.
pub mod Numerals
-- The text of words is a line that our own language reads as these words.
pub mod LineTexts
-- The text of words from the left, and lengths of texts.
pub mod Lengths
-- The text of lines is a text with these lines.
pub mod ProgramTexts
-- The text of words, lines and programs: worked examples, evaluated.
mod Examples
