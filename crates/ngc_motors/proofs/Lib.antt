-- Quotients that are rounded down, and the laws of counts.
pub mod Quotients
-- Counts fit in 32 bits.
pub mod Sizes
-- How far a motor may stand from the path.
pub mod Slack
-- Places to which counts move the axes, in whole nanometres.
pub mod Places
-- Where the ends of a travel are moved to, and that motors can stand there.
pub mod Ends
-- Worked rows of the definition.
mod Worked
