-- What a cutter removes along an arc in the plane of X and Y. Our own; an arc's sector and its circles
-- are those of ngc_arc_geometry.
use Rattle.std.specs.Prelude.{◌≡◌, ◌⊎◌, ℕ, ◌+◌, ◌*◌, ◌-◌, ◌≤◌, ◌<◌, ℤ, pos, ◌+ℤ◌, ◌-ℤ◌, ◌*ℤ◌, ◌≤ℤ◌, ◌<ℤ◌, List, [], ◌∷◌, true}
use Rattle.std.specs.Int.{int_max, int_min}
use Rattle.ngc_fixed_length.specs.Places.{shifted, dot, cross, from}
use Rattle.ngc_fixed_length.specs.declared.modes.Plane.TheVariants.{XY}
use Rattle.ngc_fixed_length.specs.declared.modes.Turn.{Turn}
use Rattle.ngc_fixed_length.specs.declared.modes.Turn.TheVariants.{Counterclockwise, Clockwise}
use Rattle.ngc_fixed_length.specs.declared.points.Point2.{Point2}
use Rattle.ngc_fixed_length.specs.declared.points.Point3.{Point3}
use Rattle.ngc_arc_geometry.specs.Shape.{ArcShape, start_of, end_of}
use Rattle.ngc_arc_geometry.specs.Radii.{inner_radius, outer_radius}
use Rattle.ngc_arc_geometry.specs.Sector.{in_sector, is_full}
use Rattle.ngc_cells.specs.declared.stretch.Stretch.{Stretch}
use Rattle.ngc_cells.specs.Stretches.{middle, square, spot}
use Rattle.ngc_stock.specs.declared.cylinder.Cylinder.{Cylinder}
use Rattle.ngc_stock.specs.Stocks.{radius, IsCutBy}

-- the height of the foot at the higher end
abbrev pub upper_tip : Cylinder → ArcShape → ℤ
upper_tip t a = int_max a.start.z a.end.z +ℤ t.bottom

-- the n-th part of a vector d leads from the centre to a point in the arc's sector, at most `room`
-- from both of the arc's circles: that through its start, and that through its end. So the point is at
-- most `room` from the arc, wherever between the circles that is
pub record IsByArc (a : ArcShape) (room n : ℕ) (d : Point2) : Type 0 where
  pub sector : in_sector a (shifted a.centre d) ≡ true
  pub inner : pos ((n * (outer_radius a - room)) * (n * (outer_radius a - room))) ≤ℤ dot d d
  pub outer : dot d d ≤ℤ pos ((n * (inner_radius a + room)) * (n * (inner_radius a + room)))

-- this point is at most r from q
abbrev pub IsBeside : ArcShape → ℕ → Point2 → ℕ → Point3 → Type 0
IsBeside a n d r q =
    (square ((pos n *ℤ (q.x -ℤ a.centre.u)) -ℤ d.u) +ℤ square ((pos n *ℤ (q.y -ℤ a.centre.v)) -ℤ d.v))
    ≤ℤ pos ((n * r) * (n * r))

-- a point is at most `room` from the arc, and q is at most the cylinder's radius less `room` from that
-- point: so at some point of the arc the cylinder is over q. The foot is at most as high as q at the arc's
-- higher end, and so all along a helix
pub record IsCutAlong (t : Cylinder) (a : ArcShape) (q : Point3) : Type 0 where
  pub plane : a.plane ≡ XY
  pub room : ℕ
  pub n : ℕ
  pub d : Point2
  pub some : 0 < n
  pub fits : room ≤ radius t
  pub by_arc : IsByArc a room n d
  pub around : IsBeside a n d (radius t - room) q
  pub low : upper_tip t a ≤ℤ q.z

-- an arc cuts q on its way, or at its end, where the foot may be lower
abbrev pub IsCutByArc : Cylinder → ArcShape → Point3 → Type 0
IsCutByArc t a q = IsCutAlong t a q ⊎ IsCutBy t a.end a.end q

-- ---- chords

-- n times the vector that is k/n of the way from d to e
abbrev pub between : ℕ → ℕ → Point2 → Point2 → Point2
between n k d e = record { u = middle n k d.u e.u; v = middle n k d.v e.v }

-- each point of the chord from d to e, vectors from the centre, is by the arc
abbrev pub IsChord : ArcShape → ℕ → Point2 → Point2 → Type 0
IsChord a room d e = (n k : ℕ) → 0 < n → k ≤ n → IsByArc a room n (between n k d e)

abbrev pub chord : ArcShape → Point2 → Point2 → Stretch
chord a d e =
    record {
      start = spot (a.centre.u +ℤ d.u) (a.centre.v +ℤ d.v);
      end = spot (a.centre.u +ℤ e.u) (a.centre.v +ℤ e.v);
      parts = 1;
      part = 0;
    }

-- ---- chords along a whole arc

-- the point at a vector from the centre, as low as the arc's lower end
abbrev pub low_at : ArcShape → Point2 → Point3
low_at a d = record { x = a.centre.u +ℤ d.u; y = a.centre.v +ℤ d.v; z = int_min a.start.z a.end.z }

-- the vectors from the centre to both ends of an arc: that from which it leads counterclockwise, and the other
abbrev pub first_of : Turn → Point2 → Point2 → Point2
first_of Counterclockwise start end = start
first_of Clockwise start end = end

abbrev pub first_end : ArcShape → Point2
first_end a = first_of a.turn (from a.centre (start_of a)) (from a.centre (end_of a))

abbrev pub last_end : ArcShape → Point2
last_end a = first_of a.turn (from a.centre (end_of a)) (from a.centre (start_of a))

abbrev pub opposite : Point2 → Point2
opposite d = record { u = pos 0 -ℤ d.u; v = pos 0 -ℤ d.v }

-- chords from the vector d through these vectors to e: each is by the arc and turns counterclockwise, by less
-- than half a turn, and P holds of the points at its ends
abbrev pub AreChords : ArcShape → ℕ → (Point3 → Point3 → Type 0) → Point2 → List Point2 → Point2 → Type 0
AreChords a room P d [] e = d ≡ e
AreChords a room P d (m ∷ ms) e =
    IsChord a room d m × (pos 0 <ℤ cross d m) × P (low_at a d) (low_at a m) × AreChords a room P m ms e

-- such chords from one end of an arc to the other; those of an arc that goes full round pass the side opposite of
-- its start
pub record AreAlong (a : ArcShape) (room : ℕ) (P : Point3 → Point3 → Type 0) : Type 0 where
  pub halfway : Point2
  pub before : List Point2
  pub after : List Point2
  pub round : is_full a ≡ true → halfway ≡ opposite (first_end a)
  pub first : AreChords a room P (first_end a) before halfway
  pub last : AreChords a room P halfway after (last_end a)
