pub mod Sentences
pub mod Mistakes
