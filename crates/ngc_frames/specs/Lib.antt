pub mod Frame
pub mod Changes
pub mod InForce
pub mod Walks
pub mod Laws
pub mod Words
pub mod Facts
