-- The fixtures that texts write, up to the first mistake.
pub mod ReadFixtures
-- Added fixtures in machine coordinates, and those of a machine with them.
pub mod MoreFixtures
-- The corners of a box, ordered.
pub mod OrderedCorners
-- How boxes are stored, with one more fixture.
pub mod StoredBoxes
-- Fixtures that are added one at a time.
pub mod Extended
-- A text that is split at the last byte of a kind.
pub mod LastSplit
