pub mod Boxes
pub mod Texts
pub mod Placing
