pub mod Braking
pub mod Leg
pub mod Reach
pub mod Work
pub mod Outlook
pub mod Laws
pub mod OneChange
