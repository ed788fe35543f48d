-- What words do doesn't depend on line numbers.
pub mod LineNumbers
-- The text of plain lines does what the plain lines do.
pub mod TextMeanings
