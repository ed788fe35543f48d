-- The position of a wheel's points in the plane of the arc about whose centre it turns. Our own.
use Rattle.std.specs.Prelude.{ℕ, zero, suc, ◌*◌, ◌<◌, ◌≤◌, neg_ℤ, List, [], ◌∷◌}
use Rattle.ngc_fixed_length.specs.Places.{shifted}
use Rattle.ngc_fixed_length.specs.declared.modes.Turn.{Turn}
use Rattle.ngc_fixed_length.specs.declared.modes.Turn.TheVariants.{Clockwise, Counterclockwise}
use Rattle.ngc_fixed_length.specs.declared.points.Point2.{Point2}
use Rattle.ngc_circle_walk.specs.declared.spoke.Quadrant.{Quadrant}
use Rattle.ngc_circle_walk.specs.declared.spoke.Spoke.{Spoke}
use Rattle.ngc_circle_walk.specs.Quadrants.{following}
use Rattle.ngc_circle_walk.specs.Around.{around}
use Rattle.ngc_arc_geometry.specs.Shape.{ArcShape}

-- a clockwise arc is mirrored
abbrev pub mirrored : Turn → Point2 → Point2
mirrored Counterclockwise d = d
mirrored Clockwise d = record { u = d.u; v = neg_ℤ d.v }

-- the point of the plane at this spoke
abbrev pub placed : ArcShape → Spoke → Point2
placed a s = shifted a.centre (mirrored a.turn (around s.quadrant s.x s.y))

-- the quadrant n further on
abbrev pub turned_by : ℕ → Quadrant → Quadrant
turned_by zero q = q
turned_by (suc n) q = following (turned_by n q)

-- from (x, y) of some quadrant to (z, w), n quadrants further on, is more than nothing and at most
-- a full turn
abbrev pub IsATurn : ℕ → ℕ → ℕ → ℕ → ℕ → Type 0
IsATurn zero x y z w = y * z < x * w
IsATurn (suc zero) x y z w = Unit {0}
IsATurn (suc (suc zero)) x y z w = Unit {0}
IsATurn (suc (suc (suc zero))) x y z w = Unit {0}
IsATurn (suc (suc (suc (suc zero)))) x y z w = x * w ≤ y * z
IsATurn (suc (suc (suc (suc (suc n))))) x y z w = ⊥

-- the point at radius r on the half axis on which the quadrant n further on begins
abbrev pub axis_spoke : Spoke → ℕ → ℕ → Spoke
axis_spoke b r n = record { quadrant = turned_by n b.quadrant; x = r; y = 0 }

-- c of these points, from the n-th on
abbrev pub axis_points : ArcShape → Spoke → ℕ → ℕ → ℕ → List Point2
axis_points a b r n zero = []
axis_points a b r n (suc c) = placed a (axis_spoke b r n) ∷ axis_points a b r (suc n) c

-- the first half axis at or past a point at y of its quadrant, counted from the one on which its
-- quadrant begins
abbrev pub first_axis : ℕ → ℕ
first_axis zero = 0
first_axis (suc y) = 1
