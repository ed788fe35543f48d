-- A path turns with its arc, in the arc's direction (NISTIR 6556, 3.5.3), and through all of it.
-- The tolerances are our own.
use Rattle.std.specs.Prelude.{◌⊎◌, ℕ, ◌≤◌, pos, ◌≤ℤ◌, List, [], ◌∷◌}
use Rattle.ngc_fixed_length.specs.declared.points.Point2.{Point2}
use Rattle.ngc_arc_geometry.specs.Shape.{ArcShape}
use Rattle.ngc_arc_geometry.specs.Sector.{turn_from}
use Rattle.ngc_arc_geometry.specs.ArcBand.{IsWithin}
use Rattle.ngc_arc_geometry.specs.ArcSides.{IsByAnEnd}

-- from index i to index n, a path comes within d of each of these points, in order: the indexes
-- never fall
abbrev pub Passes : (ℕ → Point2) → ℕ → ℕ → ℕ → List Point2 → Type 0
Passes at n d i [] = Unit {0}
Passes at n d i (q ∷ qs) = (k : ℕ) × (i ≤ k) × (k ≤ n) × IsWithin d (at k) q × Passes at n d k qs

-- a move does not turn back about the centre: the cross product of its ends in the arc's direction
-- is at least 0, unless one of them is within d of an end of the arc
abbrev pub GoesOn : ArcShape → ℕ → Point2 → Point2 → Type 0
GoesOn a d p q = (pos 0 ≤ℤ turn_from a p q) ⊎ (IsByAnEnd a d p ⊎ IsByAnEnd a d q)
