pub mod Commands
pub mod Words
pub mod Places
pub mod Seen
pub mod Asked
pub mod Folders
pub mod Texts
pub mod Added
