-- The first part that is read of a line.
pub mod FirstPart
-- The first byte of a line's text.
pub mod FirstByte
-- One line of a program after another, at both settings of block delete.
pub mod Settings
