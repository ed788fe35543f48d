-- The sector of an arc, from its start to its end in its direction of turning, both included
-- (NISTIR 6556, 3.5.3).
use Rattle.std.specs.Prelude.{ℕ, ℤ, pos, ◌+ℤ◌, ◌-ℤ◌, neg_ℤ, int_le, int_lt, List, [], ◌∷◌, ◌++◌}
use Rattle.std.specs.Prelude.{take, drop, filter, Bool, true, ◌&&◌, ◌||◌, if◌then◌else◌}
use Rattle.ngc_fixed_length.specs.Places.{from, cross, dot}
use Rattle.ngc_fixed_length.specs.Signed.{is_zero}
use Rattle.ngc_fixed_length.specs.declared.modes.Turn.{Turn}
use Rattle.ngc_fixed_length.specs.declared.modes.Turn.TheVariants.{Clockwise, Counterclockwise}
use Rattle.ngc_fixed_length.specs.declared.points.Point2.{Point2}
use Rattle.ngc_arc_geometry.specs.Shape.{ArcShape, start_of, end_of}
use Rattle.ngc_arc_geometry.specs.Radii.{outer_radius}

-- the cross product about the centre, in the arc's direction
abbrev pub turning : Turn → ℤ → ℤ
turning Counterclockwise z = z
turning Clockwise z = neg_ℤ z

abbrev pub turn_from : ArcShape → Point2 → Point2 → ℤ
turn_from a p q = turning a.turn (cross (from a.centre p) (from a.centre q))

-- q is ahead of p by at most half a turn, or in p's direction
abbrev pub is_ahead : ArcShape → Point2 → Point2 → Bool
is_ahead a p q = int_le (pos 0) (turn_from a p q)

-- both lie in the same direction from the centre
abbrev pub same_direction : ArcShape → Point2 → Point2 → Bool
same_direction a p q =
    is_zero (turn_from a p q) && int_lt (pos 0) (dot (from a.centre p) (from a.centre q))

-- the end equals the start, or lies in its direction
abbrev pub is_full : ArcShape → Bool
is_full a = same_direction a (start_of a) (end_of a)

-- a sector of at most half a turn is the intersection of two half planes; a larger one is their
-- union
abbrev pub in_sector : ArcShape → Point2 → Bool
in_sector a p =
    if is_full a then true
    else (if is_ahead a (start_of a) (end_of a)
    then is_ahead a (start_of a) p && is_ahead a p (end_of a)
    else is_ahead a (start_of a) p || is_ahead a p (end_of a))

-- ---- quadrant points

-- the points at radius r on the plane's half axes, from u on in the direction of turning
abbrev pub quadrant_points : Turn → Point2 → ℤ → List Point2
quadrant_points Counterclockwise c r =
    record { u = c.u +ℤ r; v = c.v } ∷
    record { u = c.u; v = c.v +ℤ r } ∷
    record { u = c.u -ℤ r; v = c.v } ∷
    record { u = c.u; v = c.v -ℤ r } ∷ []
quadrant_points Clockwise c r =
    record { u = c.u +ℤ r; v = c.v } ∷
    record { u = c.u; v = c.v -ℤ r } ∷
    record { u = c.u -ℤ r; v = c.v } ∷
    record { u = c.u; v = c.v +ℤ r } ∷ []

-- the first of four half axes that a direction (u, v) meets, from u on in the direction of turning;
-- v points towards the second
abbrev pub first_met : ℤ → ℤ → ℕ
first_met u v =
    if int_lt (pos 0) v && int_le (pos 0) u then 1
    else (if int_lt u (pos 0) && int_le (pos 0) v then 2
    else (if int_lt v (pos 0) && int_le u (pos 0) then 3 else 0))

abbrev pub first_quadrant : ArcShape → ℕ
first_quadrant a = let d = from a.centre (start_of a) in first_met d.u (turning a.turn d.v)

abbrev pub rotated : ℕ → List Point2 → List Point2
rotated n points = drop n points ++ take n points

-- the four in the arc's order, from the first that it meets
abbrev pub quadrants_in_turn : ArcShape → List Point2
quadrants_in_turn a =
    rotated (first_quadrant a) (quadrant_points a.turn a.centre (pos (outer_radius a)))

-- the quadrant points at the outer radius in the sector, in the arc's order from its start on
abbrev pub extremes : ArcShape → List Point2
extremes a = filter (in_sector a) (quadrants_in_turn a)
