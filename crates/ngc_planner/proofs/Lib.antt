-- Targets that depend on the place on an arc.
pub mod ArcFeedLaws
-- The greatest rate of a motion, and its least travel.
pub mod BoundLaws
-- The axes' limits on a motion: the greatest rate and the greatest change that keep them.
pub mod ComponentLaws
-- Rounding a cap down.
pub mod CapLaws
-- Ticks without reports.
pub mod CoastLaws
-- A coordinate of a displacement fits in 64 bits.
pub mod CoordinateLaws
-- Rates and changes by axis on worked motions, by evaluating the definitions.
pub mod ComponentExamples
-- Caps, bounds, joints and rates on worked motions, by evaluating the definitions.
pub mod Examples
-- The size of the coordinates of headings, and their distance from the vector's.
pub mod HeadingLaws
-- Vectors that are positive multiples of each other.
pub mod StraightLaws
-- The change of the axes' rates at a joint.
pub mod JointLaws
-- The rates that a window allows.
pub mod WindowLaws
-- What the turns of the axes allow: on each axis a window is one of its own.
pub mod TurnLaws
-- The joint over a window compared with that of the two neighbours, and its properties.
pub mod JointWindowLaws
-- The motions passed before a joint: what a block of them allows, and how a trail follows the
-- commands.
pub mod TrailLaws
-- Where a path is smooth, a window allows each rate that the turns of the axes allow.
pub mod SmoothLaws
-- Joints over a window, by evaluating the definitions.
pub mod WindowExamples
-- Points with equal coordinates are equal.
pub mod Points
-- The motions of a queue after one has left.
pub mod QueueLaws
-- A tick of a ramp: its rate is allowed, and the invariant holds after it.
pub mod RampLaws
-- Ticks that are computed at once: a ramp that speeds up, goes on or slows down.
pub mod StretchLaws
-- The meaning of a ramp's fields after a load and after a tick.
pub mod StateLaws
