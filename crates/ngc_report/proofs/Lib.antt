-- What holds of a converted error.
pub mod Converted
-- How far a command must move to be clear of an obstacle.
pub mod ShiftLaws
-- Every point that a program may reach lies in its extent.
pub mod ExtentHoldsPoints
-- A program that fits stays inside the travel.
pub mod Fitting
-- The part of an extent that lies within the travel.
pub mod ExtentInTravel
-- A whole text that is collected and written out.
pub mod ReportPrefix
-- Lines after others.
pub mod Sentences
-- The motions of a use, if there may be fewer.
pub mod Cuts
-- The line with a number, found one by one.
pub mod Lines
-- The first line of a text, and lines by their number.
pub mod LinesByNumber
