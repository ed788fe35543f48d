-- Worked arcs, by evaluating the definitions.
mod Examples
-- Worked paths along arcs, by evaluating the definitions; and paths that follow no arc.
mod FollowedArcs
-- A path that follows an arc stays in its swept box.
mod FollowedPaths
-- Points with equal coordinates are equal.
pub mod Points
-- Squares, and their consequences for the numbers.
pub mod Squares
-- The size and the difference of radii that are nearly equal.
pub mod RadiiLemmas
-- The plane's coordinates of a point that is in range.
pub mod Planes
-- The distance of the centre from the chord, in radius format.
pub mod ChordLemmas
-- The distances of the ends from a centre that is found from the chord's middle.
pub mod CentreLemmas
-- In radius format the squared radii stay in range.
pub mod CentreRange
-- In both formats the radii of an arc are within their bounds, wherever its ends lie.
pub mod FormatRadii
-- Small numbers are unchanged in 64 bits.
pub mod Machine
-- If no step refuses, the result is the last step's.
pub mod LastStep
-- Properties of every arc.
pub mod ArcLemmas
-- Grid points next to a number of nanometres.
pub mod GridLemmas
-- Spans of coordinates, and the grid points inside them.
pub mod SpanLemmas
-- The grid points of an arc's ends lie in its swept box.
pub mod SweptEnds
-- How far along an axis a point ahead can be.
pub mod CutLemmas
-- Products of turns.
pub mod CutInts
-- Signs of turns and of coordinates.
pub mod CutSigns
-- A point of a cone within a quadrant lies in the grown box of two cut points.
pub mod CutBetween
-- From nanometres to grid points, and a cut arc's box in its plane's coordinates.
pub mod CutGrid
-- A cut arc in the direction of its turning: a clockwise one is mirrored.
pub mod CutSeen
-- The law of cut arcs: each point of band and sector lies in the box of one of the pieces.
pub mod CutChain
-- The grid points of a cut arc's ends lie in the boxes of its first and last piece.
pub mod CutEnds
-- The worked pieces of a half circle, computed.
mod CutExamples
