-- The boxes that are still to be drawn, one step further.
pub mod BoxSteps
-- The whole picture, from the start.
pub mod WholePicture
-- The boxes of a certificate, one step further.
pub mod Sweeps
