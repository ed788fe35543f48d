pub mod Heights
pub mod Tips
pub mod Texts
