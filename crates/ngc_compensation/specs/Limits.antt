-- The limits of points and vectors.
use Rattle.std.specs.Prelude.{ℕ, ◌≤◌, unsigned_abs}
use Rattle.ngc_fixed_length.specs.declared.points.Point2.{Point2}

-- at most n on each axis
abbrev pub IsWithin : ℕ → Point2 → Type 0
IsWithin n p = (unsigned_abs p.u ≤ n) × (unsigned_abs p.v ≤ n)
