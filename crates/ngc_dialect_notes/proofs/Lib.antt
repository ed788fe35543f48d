-- A place of a list is set.
pub mod Places
