pub mod Lines
pub mod Search
pub mod Values
pub mod Places
