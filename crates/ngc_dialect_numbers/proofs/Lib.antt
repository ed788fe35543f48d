-- A quotient is at most m if the dividend is at most m times the divisor.
pub mod Quotients
-- The root that is returned is the nearest.
pub mod RootLaws
-- The computed series of sine and cosine are near those that define them.
pub mod SeriesLaws
-- A sine in units of 10^-12 is within one unit of its series.
pub mod SineLaws
