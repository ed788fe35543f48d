-- Euclid's algorithm in any number of steps that is enough.
pub mod Euclid
-- The greatest common divisor of a ratio's numbers, and what is left of them.
pub mod Terms
-- A quotient above or below a bound.
pub mod Quotients
