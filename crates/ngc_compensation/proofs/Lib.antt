-- A part of a vector of length n is at most n.
pub mod Parts
-- A rounded vector has its length to 1 nm, and its direction to 1 nm.
pub mod Near
-- Products of signed numbers: sums multiply out.
pub mod Products
-- How far a rounded point of intersection is from a line.
pub mod Beside
-- The point where two lines beside a place meet is beside both.
pub mod Corners
