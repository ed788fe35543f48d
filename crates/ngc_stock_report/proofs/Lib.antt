-- Prefixes: prefixes of texts that are written in order.
-- Remaining: what is said of the remaining fixtures.
-- UncutBlocks: what it means that no feed cuts the block.
-- Levels: marks, one motion after another.
-- Covering: some cells cover a block of material.
-- Reliefs: the map of what a walk leaves.
pub mod Prefixes
pub mod Remaining
pub mod UncutBlocks
pub mod Levels
pub mod Covering
pub mod Reliefs
