pub mod Failures
pub mod Device
pub mod Written
pub mod Input
pub mod Collected
pub mod Decimals
pub mod Millimetres
pub mod Shown
