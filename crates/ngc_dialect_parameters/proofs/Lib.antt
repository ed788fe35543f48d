-- One more part, and how it changes the numbers of values and statements.
pub mod Steps
-- Words whose value is a number.
pub mod NumberWords
-- Each part of a line that was read finds its values.
pub mod Balance
-- A name that is set.
pub mod NameLaws
-- One more setting.
pub mod SettingLaws
-- What is stored, value by value; one more parameter of a call; what calls keep.
pub mod StoredLaws
