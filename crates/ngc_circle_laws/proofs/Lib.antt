-- Cross products about an arc's centre, by quadrants.
pub mod CrossProducts
-- The spokes that the sector of an arc contains, and those that it does not contain.
pub mod Sectors
-- Walks of a wheel round an arc's centre, from the start's ray to the end's: all their points are in the sector, and no move turns back.
pub mod Walks
-- The quadrant points of an arc, in quadrants from its start.
pub mod Axes
-- A walk passes the quadrant points of its arc, in order.
pub mod PassedQuadrants
-- A walk along a circle of at least eight steps.
pub mod Circuit
-- The moves of a walk, for the definitions of an arc's path.
pub mod Lifts
-- Ends as spokes, and the number of quadrants between them.
pub mod QuadrantCounts
-- Arcs whose end's ray is reached before the wheel moves: they have at most one quadrant point,
-- near the joint.
pub mod ShortArcs
-- Walks follow their arcs.
mod WalkLaw
-- A full walk, by evaluation: a circle of radius eight steps, clockwise, 44 moves.
mod Circles
-- A point between the rays of an arc, near its circles, is in a box round the arc's ends and quadrant points.
pub mod ArcBoxes
-- A walk along a circle of two and a quarter to eight steps, which follows an arc whose radii are small: within four steps.
pub mod SmallCircuit
-- A point near the start's direction, rounded to the grid, is in the start's quadrant or next to
-- it.
pub mod JointQuadrant
-- The point at which a wheel begins: at the start's direction or past it, and less than a step past
-- a half axis in between.
pub mod FirstPoints
-- A walk's points and a path that follows the arc: the points are in its box, and all clauses hold
-- for both sizes of circles.
pub mod Followed
-- From the last point of a walk before the end's ray to the end.
pub mod LastPoints
-- The number of moves of a walk: after four quadrants it ends no further on than it began.
pub mod Lengths
-- Arcs whose end's ray the wheel's first point has reached: the cases by quadrants, each with the
-- vector from the joint to the end.
pub mod ReachedEndRays
-- An arc whose end's ray is reached before the wheel moves: its joint is near its end.
pub mod NearEndArcs
-- The vector from the joint to the end, in the coordinates of the start's quadrant: along its first
-- half axis and along its second.
pub mod JointToEnd
-- From the joint straight to the end's grid point: at most two moves, through a point within a step
-- of the end.
pub mod Straight
-- The same for circles of less than eight steps: the joint is less than four steps from the end.
pub mod NearEndSmallArcs
-- A short arc, for which no walk begins, passes its quadrant point, if there is one, at the joint.
pub mod OneAxis
