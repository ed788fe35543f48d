-- The radii of an arc at its start and end. The tolerance of their difference follows NISTIR 6556,
-- 3.5.3.2; the bounds are our own.
use Rattle.std.specs.Prelude.{ℕ, ◌≤◌, ◌<◌, ◌+◌, ◌-◌, ◌*◌, ◌==◌, nat_le, min, max, unsigned_abs}
use Rattle.std.specs.Prelude.{Result, Ok, Bool, not, ◌||◌}
use Rattle.ngc_fixed_length.specs.Places.{from, dot}
use Rattle.ngc_fixed_length.specs.Roots.{whole_root, whole_root_above}
use Rattle.ngc_fixed_length.specs.declared.points.Point2.{Point2}
use Rattle.ngc_arc_geometry.specs.Shape.{ArcShape, start_of, end_of, IsNear}
use Rattle.ngc_arc_geometry.specs.declared.fault.ArcFault.{ArcFault}
use Rattle.ngc_arc_geometry.specs.declared.fault.ArcFault.TheVariants.{RadiiDiffer}
use Rattle.ngc_arc_geometry.specs.declared.fault.ArcFault.TheVariants.{RadiusOutOfRange}
use Rattle.ngc_arc_geometry.specs.Faults.{◌>>◌, refuse_if}

abbrev pub squared_distance : Point2 → Point2 → ℕ
squared_distance p q = unsigned_abs (dot (from p q) (from p q))

-- the lesser and the greater squared distance of the ends from the centre
abbrev pub lo : ArcShape → ℕ
lo a = min (squared_distance a.centre (start_of a)) (squared_distance a.centre (end_of a))

abbrev pub hi : ArcShape → ℕ
hi a = max (squared_distance a.centre (start_of a)) (squared_distance a.centre (end_of a))

-- the radii as whole numbers: the lesser one rounded down, and the greater one rounded up
abbrev pub inner_radius : ArcShape → ℕ
inner_radius a = whole_root (lo a)

abbrev pub outer_radius : ArcShape → ℕ
outer_radius a = whole_root_above (hi a)

-- the square of the greatest programmed radius, 2*10^9 nm
abbrev pub SQUARE_LIMIT : ℕ
SQUARE_LIMIT = 4000000000000000000

-- the roots of lo and hi differ by at most t
abbrev pub roots_within : ℕ → ℕ → ℕ → Bool
roots_within t lo hi =
    nat_le (lo + hi) (t * t) || nat_le ((lo + hi - t * t) * (lo + hi - t * t)) (4 * lo * hi)

-- the radii at start and end, rounded down to whole nanometres
abbrev pub start_radius : ArcShape → ℕ
start_radius a = whole_root (squared_distance a.centre (start_of a))

abbrev pub end_radius : ArcShape → ℕ
end_radius a = whole_root (squared_distance a.centre (end_of a))

-- the arc, if its radii are in range and differ by at most t
abbrev pub with_equal_radii : ℕ → ArcShape → Result ArcShape ArcFault
with_equal_radii t a =
    refuse_if (lo a == 0) RadiusOutOfRange >>
    refuse_if (not (roots_within t (lo a) (hi a))) (RadiiDiffer (start_radius a) (end_radius a)) >>
    Ok a

-- the sum of the squared radii is at most twice the square of a radius a little over 2*10^9 nm
abbrev pub HasRadiiInRange : ArcShape → Type 0
HasRadiiInRange a = lo a + hi a ≤ 2 * (2000006000 * 2000006000)

-- the arcs of both formats: the greater radius is at most 2*10^9 nm, apart from the centre's
-- rounding and the tolerance; it exceeds the lesser by at most the tolerance and the rounding of
-- the roots
pub record IsArc (a : ArcShape) : Type 0 where
  pub start : IsNear a.start
  pub end : IsNear a.end
  pub some_radius : 0 < lo a
  pub radius : hi a ≤ 2000020000 * 2000020000
  pub even : outer_radius a ≤ inner_radius a + 6000

-- the radii of both formats: the lesser is above 0, the greater is at most a little over 2*10^9 nm,
-- and they are nearly equal
pub record HasEvenRadii (a : ArcShape) : Type 0 where
  pub some_radius : 0 < lo a
  pub radius : hi a ≤ 2000020000 * 2000020000
  pub even : outer_radius a ≤ inner_radius a + 6000
