-- What holds of a cycle that isn't refused.
pub mod Sound
-- Parts of the moves, and how they join.
pub mod Joined
-- No move of a cycle is dangerous, and a line ends over its last hole.
pub mod Safe
-- Where a hole is drilled, no feed goes up.
pub mod Down
