-- The most frequent codes.
pub mod Frequent
-- Lines of one straight motion.
pub mod Straight
-- Millimetres can write all lengths.
pub mod ExactLengths
