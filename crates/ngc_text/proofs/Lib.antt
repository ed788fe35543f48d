-- A text that is written in pieces.
pub mod AppendedTexts
-- The total that a source lost.
pub mod ConsumedBytes
-- A number's decimal text reads as the number, and a text that reads as a number is its decimal
-- text.
pub mod DecimalLaws
-- Sizes of digits as they are read, up to a bound.
pub mod DigitLaws
-- Texts that a byte separates.
pub mod SplitTexts
-- The first elements of a list, if there may be fewer.
pub mod ListPrefixes
-- A number's text that is added with unused bytes after it.
pub mod NumberTexts
