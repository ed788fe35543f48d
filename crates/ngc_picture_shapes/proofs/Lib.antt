-- The progress of drawing shapes that others follow.
pub mod ShapeProgress
-- A curve is halved.
pub mod Curves
-- The rectangle that holds a curve, which is halved.
pub mod CurveRectangles
-- A direction's coordinates are at most its length, and scaled ones at most the radius.
pub mod Directions
-- The name of a tool.
pub mod ToolNames
-- Texts that are added in order.
pub mod Texts
-- A list that is filled with the images of another's elements.
pub mod MappedLists
-- A value of at most 100 m is accepted as a length.
pub mod Lengths
