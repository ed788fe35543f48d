pub mod Corners
pub mod Motors
pub mod Contents
pub mod Figures
pub mod Refusals
pub mod Machines
pub mod Reading
pub mod Written
