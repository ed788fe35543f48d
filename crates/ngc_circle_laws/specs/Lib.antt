pub mod Placed
pub mod ArcWalk
pub mod Round
pub mod Hull
