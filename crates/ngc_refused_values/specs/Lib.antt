pub mod LastWords
pub mod Values
pub mod Texts
