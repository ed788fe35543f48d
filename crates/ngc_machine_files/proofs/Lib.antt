-- TOML values and tables, and the trees that they represent.
pub mod Trees
-- The contents of a machine file, part by part.
pub mod Contents
-- Range tests, and the facts that they prove.
pub mod Ranges
-- Ranges of the steps of motors.
pub mod MotorRanges
-- Files whose values are all in range.
pub mod GoodFiles
-- Files of versions 1 and 2 describe no far machine.
pub mod NearLaws
-- Files that consist of white space and comments only.
pub mod BlankFiles
-- How names are stored.
pub mod StoredNames
-- The first element of a list, and the rest.
pub mod PartLists
