-- The position in the plane of a point in its quadrant's coordinates. Our own.
use Rattle.std.specs.Prelude.{ℕ, pos, neg_ℤ}
use Rattle.ngc_fixed_length.specs.declared.points.Point2.{Point2}
use Rattle.ngc_circle_walk.specs.declared.spoke.Quadrant.{Quadrant}
use Rattle.ngc_circle_walk.specs.declared.spoke.Quadrant.TheVariants.{First, Second, Third, Fourth}
use Rattle.ngc_circle_walk.specs.declared.spoke.Spoke.{Spoke}

-- the vector from the centre to x along the quadrant's first half axis and y along its second
abbrev pub around : Quadrant → ℕ → ℕ → Point2
around First x y = record { u = pos x; v = pos y }
around Second x y = record { u = neg_ℤ (pos y); v = pos x }
around Third x y = record { u = neg_ℤ (pos x); v = neg_ℤ (pos y) }
around Fourth x y = record { u = pos y; v = neg_ℤ (pos x) }

abbrev pub way_to : Spoke → Point2
way_to s = around s.quadrant s.x s.y
