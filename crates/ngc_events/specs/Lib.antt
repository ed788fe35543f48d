pub mod Arriving
pub mod Events
pub mod Faults
pub mod Given
pub mod Reading
pub mod Spelling
