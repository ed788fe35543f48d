pub mod Commanded
pub mod Calls
