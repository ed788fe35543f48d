pub mod Heights
pub mod Chords
pub mod Touches
pub mod Rims
pub mod Walks
pub mod Remains
pub mod Silences
pub mod Cuts
