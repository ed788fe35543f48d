-- From the path to the commanded positions.
pub mod Commanding
-- The machine of a call is fit for its motors.
pub mod CallFits
