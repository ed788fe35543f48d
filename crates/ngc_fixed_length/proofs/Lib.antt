-- Properties of rounding to the grid.
pub mod GridLemmas
-- The rounding error is at most a half.
pub mod Nearest
-- The root by digits is the greatest number whose square is at most x, and the only one.
pub mod RootLaws
