-- Blank files, which aren't of version 3, and holders of more than three parts.
pub mod Blank
pub mod ManyParts
