-- Lines that are too long to be shown.
pub mod Unshown
-- How long the name of an unknown table is.
pub mod Names
-- What is written of a stop, as a text for some stop.
pub mod Stopped
