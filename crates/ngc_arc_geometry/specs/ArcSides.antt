-- A path stays in its arc's sector (NISTIR 6556, 3.5.3), except near its ends. How near is our own.
use Rattle.std.specs.Prelude.{◌≡◌, ◌⊎◌, ℕ, true}
use Rattle.ngc_fixed_length.specs.declared.points.Point2.{Point2}
use Rattle.ngc_arc_geometry.specs.Shape.{ArcShape, start_of, end_of}
use Rattle.ngc_arc_geometry.specs.Sector.{in_sector}
use Rattle.ngc_arc_geometry.specs.ArcBand.{IsWithin}

-- at most d from the start or the end
abbrev pub IsByAnEnd : ArcShape → ℕ → Point2 → Type 0
IsByAnEnd a d p = IsWithin d (start_of a) p ⊎ IsWithin d (end_of a) p

-- in the sector, its two rays included, or at most d from an end
abbrev pub IsBetweenEnds : ArcShape → ℕ → Point2 → Type 0
IsBetweenEnds a d p = (in_sector a p ≡ true) ⊎ IsByAnEnd a d p
