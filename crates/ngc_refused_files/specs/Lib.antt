pub mod Places
pub mod Examples
pub mod Sentences
pub mod Headers
pub mod Refusals
pub mod Stops
