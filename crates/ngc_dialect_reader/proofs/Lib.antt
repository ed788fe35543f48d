-- The number of leading digits, letters and other bytes.
pub mod Digits
-- A number's digits, rounded.
pub mod Rounded
-- One byte of a line's text.
pub mod TextBytes
-- One step of a value and of an expression.
pub mod ValueSteps
-- Items.
pub mod ItemSteps
-- Arguments.
pub mod FlowSteps
-- Words whose values are numbers of few digits.
pub mod ShortWords
