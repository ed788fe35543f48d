-- The text of a source, if the source contains these bytes.
pub mod Texts
-- One more fault, and the last.
pub mod NextFault
