-- The distance of a wheel's points from the centre.
pub mod Rim
-- Points of a quadrant, and a ray in it: e = (ex, ey) with q*q ≤ ex*ex + ey*ey ≤ (q+1)*(q+1).
pub mod Rays
-- The last point of a wheel before the end's ray is less than one and a half steps from the end on both axes, so that one move leads to ..
pub mod NearEnd
-- A column's root tells which of its points are within the limit.
pub mod Columns
-- A wheel turns forward: each move leads further round.
pub mod WheelProgress
-- The straight parts of an arc's path, and the move that leads onto the wheel.
pub mod JointMoves
-- The point at which a wheel begins: the joint (x, y), the grid point nearest to the start (bx, by)
-- moved from its radius s = p + 1 to the radius r = q ..
pub mod Entry
-- The bounds on a wheel's points, for the arc: with an end at the radius q + 1, between the arc's
-- radii near and far.
pub mod Band
-- From the joint (x, y) straight to an end whose ray a diagonal move would reach or pass: less than 7g/4 on each axis.
pub mod Short
-- Turns about the centre, by quadrants.
pub mod QuadrantTurns
-- A direction from the start's to the end's, in quadrants counted from the start on, is in the
-- sector.
pub mod DirectionsInSector
-- The sequence of a wheel's points.
pub mod Rolling
-- Moves over an axis: an end shortly past it, and the quadrant point on it.
pub mod OverAxis
-- The rule allows only one move.
pub mod OneRoll
-- The sequence of points to which the rule leads.
pub mod Wheeling
-- The laws on a wheel's points, from the lemmas on its moves.
pub mod CircleLaws
-- Round a circle of less than eight steps: the last point of a wheel before a ray is less than four steps from the ray's end.
pub mod SmallCircles
-- The distance from the centre at which a wheel begins: at the joint, or at the point to which the
-- entry leads.
pub mod WheelStart
