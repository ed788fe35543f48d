-- Fewer steps are at most the same amount, and steps are at most a larger amount.
pub mod SafeLaws
-- The travel and the places in it, as nanometres of a file.
pub mod PlaceLaws
-- In a file with rates each travel ends within 1,000 mm of zero.
pub mod NearLaws
-- Figures of three machines, and figures that are refused, with computed results.
pub mod Examples
-- The length of a travel in a machine file.
pub mod UnitLaws
-- The number of leading digits of a text, the number that they write, and numbers up to a limit.
pub mod Digits
-- The lines of a dump, in order.
pub mod LineLaws
-- Texts with computed results: a machine file, a note, options, and the settings of a controller
-- with Grbl.
pub mod TextExamples
