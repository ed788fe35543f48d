pub mod Text
pub mod Limits
pub mod Laws
