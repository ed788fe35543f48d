pub mod Demands
pub mod Margins
pub mod Texts
pub mod Changes
pub mod Laws
pub mod Lines
