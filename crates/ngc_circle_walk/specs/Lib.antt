pub mod Quadrants
pub mod Around
pub mod Wheel
pub mod Rolling
pub mod Bounds
pub mod Directions
pub mod Turning
pub mod Entering
