pub mod Origins
pub mod Warnings
pub mod Texts
pub mod Missing
