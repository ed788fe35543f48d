-- What holds of the tool's places. Our own.
use Rattle.std.specs.Prelude.{◌≡◌, ℕ, ◌+◌, ◌-◌, ◌*◌, ◌<◌, ◌≤◌, ◌≤ℤ◌, pos, ◌-ℤ◌, unsigned_abs, Some}
use Rattle.ngc_fixed_length.specs.Places.{from, cross, dot}
use Rattle.ngc_fixed_length.specs.declared.points.Point2.{Point2}
use Rattle.ngc_compensation.specs.Sides.{norm}
use Rattle.ngc_compensation.specs.Offsets.{UNIT, scaled}
use Rattle.ngc_compensation.specs.Meetings.{crossing}
use Rattle.ngc_compensation.specs.Limits.{IsWithin}

-- the vector q has the length n, to 1 nm, and ends within 1 nm of the line in the direction d, on
-- its side
pub record IsAlong (n : ℕ) (d q : Point2) : Type 0 where
  pub long : (n - 1) * (n - 1) ≤ norm q
  pub short : norm q ≤ (n + 1) * (n + 1)
  pub near : unsigned_abs (cross q d) * unsigned_abs (cross q d) ≤ norm d
  pub ahead : pos 0 ≤ℤ dot q d

-- a rounded vector of length n is where it is to be
abbrev pub OffsetsAreNear : Type 0
OffsetsAreNear = (n : ℕ) (d : Point2) → n ≤ UNIT → IsWithin 10000000000 d → 0 < norm d → IsAlong n d (scaled n d)

-- q is at the distance r from o along a unit vector, to 1 nm
abbrev pub IsBeside : Point2 → ℕ → Point2 → Point2 → Type 0
IsBeside o r unit q = unsigned_abs (dot unit (from o q) -ℤ pos (r * UNIT)) ≤ UNIT

-- the point where two lines beside o meet is beside both
abbrev pub CornersAreBeside : Type 0
CornersAreBeside = (o : Point2) (r : ℕ) (a b q : Point2) → IsWithin UNIT a → IsWithin UNIT b →
    crossing o r a b ≡ Some q → IsBeside o r a q × IsBeside o r b q
