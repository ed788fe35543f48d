-- The points by which a helix is drawn that is seen from its side. Our own.
use Rattle.std.specs.Prelude.{ℕ, zero, suc, max, nat_lt, pos, ◌+ℤ◌, ◌-ℤ◌, ◌*ℤ◌, neg_ℤ, unsigned_abs}
use Rattle.std.specs.Prelude.{List, [], ◌∷◌, ◌++◌, Bool, not, ◌||◌, if◌then◌else◌}
use Rattle.ngc_fixed_length.specs.Places.{in_plane, height, at_height, shifted, from, dot}
use Rattle.ngc_fixed_length.specs.Roots.{whole_root}
use Rattle.ngc_fixed_length.specs.Rounding.{nearest}
use Rattle.ngc_fixed_length.specs.declared.modes.Turn.{Turn}
use Rattle.ngc_fixed_length.specs.declared.modes.Turn.TheVariants.{Clockwise, Counterclockwise}
use Rattle.ngc_fixed_length.specs.declared.points.Point2.{Point2}
use Rattle.ngc_fixed_length.specs.declared.points.Point3.{Point3}
use Rattle.ngc_arc_geometry.specs.Chord as chord
use Rattle.ngc_arc_geometry.specs.Radii.{outer_radius}
use Rattle.ngc_arc_geometry.specs.Sector.{is_ahead, is_full}
use Rattle.ngc_arc_geometry.specs.Shape.{ArcShape, start_of, end_of}

-- ---- directions from the centre

-- halfway from d to e counterclockwise, of at most half a turn: their sum, and the vector from d to
-- e turned back by a right angle
abbrev pub between : Point2 → Point2 → Point2
between d e = record { u = (d.u +ℤ e.u) +ℤ (e.v -ℤ d.v); v = (d.v +ℤ e.v) +ℤ (d.u -ℤ e.u) }

-- and in an arc's direction: clockwise from d to e is counterclockwise from e to d
abbrev pub half_turned : Turn → Point2 → Point2 → Point2
half_turned Counterclockwise d e = between d e
half_turned Clockwise d e = between e d

abbrev pub opposite : Point2 → Point2
opposite d = record { u = neg_ℤ d.u; v = neg_ℤ d.v }

-- more than half a turn
abbrev pub is_long : ArcShape → Bool
is_long arc = is_full arc || not (is_ahead arc (start_of arc) (end_of arc))

-- halfway along an arc: for a long one, opposite to the point halfway along the rest of its circle
abbrev pub middle_direction : ArcShape → Point2
middle_direction arc =
    if is_long arc then opposite
    (half_turned arc.turn (from arc.centre (end_of arc)) (from arc.centre (start_of arc)))
    else half_turned arc.turn (from arc.centre (start_of arc)) (from arc.centre (end_of arc))

-- ---- points

-- the length of a direction, as a whole number above 0
abbrev pub size : Point2 → ℕ
size d = max (whole_root (unsigned_abs (dot d d))) 1

-- the point at a distance along a direction, to the nearest nanometre
abbrev pub along : ℕ → Point2 → Point2
along radius d =
    record {
      u = nearest (d.u *ℤ pos radius) (pos (size d));
      v = nearest (d.v *ℤ pos radius) (pos (size d));
    }

-- the point that lies in a direction from the centre, at the outer radius, halfway up from one
-- point to another
abbrev pub point_between : ArcShape → Point3 → Point3 → Point2 → Point3
point_between arc p q d =
    at_height arc.plane (shifted arc.centre (along (outer_radius arc) d))
    (chord.halfway (height arc.plane p) (height arc.plane q))

-- halfway round and halfway up: of points that are at most half a turn apart, and of the arc
abbrev pub halfway : ArcShape → Point3 → Point3 → Point3
halfway arc p q =
    point_between arc p q
    (half_turned arc.turn (from arc.centre (in_plane arc.plane p))
    (from arc.centre (in_plane arc.plane q)))

abbrev pub middle : ArcShape → Point3
middle arc = point_between arc arc.start arc.end (middle_direction arc)

-- the points after p, up to q: the arc is halved, and each half again, n times
abbrev pub curve : ℕ → ArcShape → Point3 → Point3 → List Point3
curve zero arc p q = q ∷ []
curve (suc n) arc p q = curve n arc p (halfway arc p q) ++ curve n arc (halfway arc p q) q

-- the number of halvings, by the radius: under 1 mm, under 10 mm, and larger
abbrev pub halvings : ℕ → ℕ
halvings radius = if nat_lt radius 1000000 then 3 else (if nat_lt radius 10000000 then 4 else 5)

-- both halves of an arc: 16, 32 or 64 points, the last of them its end
abbrev pub helix_points : ArcShape → List Point3
helix_points arc =
    curve (halvings (outer_radius arc)) arc arc.start (middle arc)
    ++ curve (halvings (outer_radius arc)) arc (middle arc) arc.end
