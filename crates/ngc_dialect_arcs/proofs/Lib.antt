-- Products of signed numbers.
mod Products
-- The radii of an evened arc.
mod Even
-- Which arcs our own language takes.
mod Format
-- Our own language takes each arc.
mod Taken
