-- Equations between sums and products of whole numbers, decided by computing.
pub mod Ring
-- Products of numbers that aren't negative, and the sum of two vectors.
pub mod Vectors
-- The points near a stretch: by cases, and that they are convex.
pub mod Nearness
-- Quotients rounded down and up, and spans.
pub mod Quotients
-- Numbers whose squares are at most a bound.
pub mod Roots
-- Sums and differences of small numbers that fit.
pub mod Kept
-- The points of a row that are near a stretch.
pub mod Rows
-- The cells of a row whose centres are in a span.
pub mod Grids
-- One row more of a map's cells.
pub mod Lowering
