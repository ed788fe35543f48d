pub mod Slips
pub mod Spelling
pub mod Boxes
pub mod Cuts
pub mod BoxTexts
