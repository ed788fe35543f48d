pub mod Refusals
pub mod Limits
pub mod Centre
pub mod Lines
pub mod Laws
