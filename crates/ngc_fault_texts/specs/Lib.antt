pub mod Numbers
pub mod Explanations
