-- The limits of the distance from the chord's middle to the centre, in radius format.
use Rattle.std.specs.Prelude.{ℕ, ◌-◌, ◌*◌, ◌≤◌, unsigned_abs}
use Rattle.ngc_fixed_length.specs.declared.points.Point2.{Point2}
use Rattle.ngc_fixed_length.specs.Places.{dot}

abbrev pub square_of : Point2 → ℕ
square_of d = unsigned_abs (dot d d)

-- along each axis at most the root of k*k*(4*square - d2)/(4*d2), with k the chord's length along
-- the other axis
pub record IsAside (chord : Point2) (square : ℕ) (offset : Point2) : Type 0 where
  pub u_bound : unsigned_abs offset.u ≤ 2000000000
  pub v_bound : unsigned_abs offset.v ≤ 2000000000
  pub u : 4 * square_of chord * (unsigned_abs offset.u * unsigned_abs offset.u)
      ≤ unsigned_abs chord.v * unsigned_abs chord.v * (4 * square - square_of chord)
  pub v : 4 * square_of chord * (unsigned_abs offset.v * unsigned_abs offset.v)
      ≤ unsigned_abs chord.u * unsigned_abs chord.u * (4 * square - square_of chord)
