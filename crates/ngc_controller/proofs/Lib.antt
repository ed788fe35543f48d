-- The ring's motions as legs of the ramp.
pub mod LegLaws
-- A tick on a motion: the ramp's rules imply the machine's.
pub mod TravelLaws
-- The head of a ring leaves.
pub mod RingLaws
-- The invariant of a controller's fields.
pub mod OrderLaws
-- A tick on the motion at the head, from the invariant of a controller's fields.
pub mod HeadLaws
-- The last elements of a list, as more are added.
pub mod KeptLaws
-- Ticks with nothing to report: many at once are the same as many in order.
pub mod CoastLaws
-- The latest replies, and the one at a position before the last.
pub mod RecentLaws
-- The target of the head, and the next point of its path.
pub mod AimLaws
-- Ticks of a ramp on its first leg.
pub mod LegEnds
-- Ticks on the motion at the head: those of the ramp are those of the machine.
pub mod MotionEnds
