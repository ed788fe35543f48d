-- When the line between two points follows an arc. Our own.
use Rattle.std.specs.Prelude.{◌≡◌, ℕ, ◌+◌, ◌*◌, ◌-◌, ◌≤◌, nat_le, nat_lt, ℤ, pos, ◌+ℤ◌, ◌-ℤ◌, ◌*ℤ◌, int_le, unsigned_abs, List, Bool, true, ◌&&◌, ◌||◌, if◌then◌else◌}
use Rattle.ngc_fixed_length.specs.Places.{cross, dot, from}
use Rattle.ngc_fixed_length.specs.declared.modes.Turn.{Turn}
use Rattle.ngc_fixed_length.specs.declared.modes.Plane.TheVariants.{XY}
use Rattle.ngc_fixed_length.specs.declared.points.Point2.{Point2}
use Rattle.ngc_arc_geometry.specs.Shape.{ArcShape, start_of, end_of}
use Rattle.ngc_arc_geometry.specs.Radii.{inner_radius, outer_radius}
use Rattle.ngc_arc_geometry.specs.Sector.{turning, is_full}
use Rattle.ngc_cells.specs.Stretches.{RADIUS_LIMIT}
use Rattle.ngc_cells.specs.Grids.{IsGrid}
use Rattle.ngc_stock.specs.declared.cylinder.Cylinder.{Cylinder}
use Rattle.ngc_stock.specs.declared.stock.Stock.{Stock}
use Rattle.ngc_stock.specs.Stocks.{kappa, radius, level_of}
use Rattle.ngc_stock.specs.Arcs.{upper_tip}
use Rattle.ngc_stock.specs.Walk.{AreChordsCut}
use Rattle.ngc_material.specs.declared.chord.Sector.{Sector}
use Rattle.ngc_material.specs.declared.chord.Band.{Band}

-- the sector of an arc in the plane of X and Y
pub record IsSector (a : ArcShape) (s : Sector) : Type 0 where
  pub plane : a.plane ≡ XY
  pub turn : s.turn ≡ a.turn
  pub start : s.start ≡ from a.centre (start_of a)
  pub end : s.end ≡ from a.centre (end_of a)
  pub full : s.is_full ≡ is_full a

-- distances from the centre that are at most `room` from both of the arc's circles
pub record IsBand (a : ArcShape) (room : ℕ) (b : Band) : Type 0 where
  pub least : b.least ≡ outer_radius a - room
  pub most : b.most ≡ inner_radius a + room

-- ---- tests on the line between the ends of two spokes, d and e

-- d turns to e by at most half a turn
abbrev pub leads : Turn → Point2 → Point2 → Bool
leads t d e = int_le (pos 0) (turning t (cross d e))

-- both are in the sector, and in the same half plane if the sector is two half planes together
abbrev pub is_in : Sector → Point2 → Point2 → Bool
is_in s d e =
    if s.is_full then true
    else (if leads s.turn s.start s.end
    then (leads s.turn s.start d && leads s.turn s.start e) && (leads s.turn d s.end && leads s.turn e s.end)
    else (leads s.turn s.start d && leads s.turn s.start e) || (leads s.turn d s.end && leads s.turn e s.end))

-- both ends are at most r from the centre
abbrev pub is_within : ℕ → Point2 → Point2 → Bool
is_within r d e = int_le (dot d d) (pos (r * r)) && int_le (dot e e) (pos (r * r))

abbrev pub length_squared : Point2 → Point2 → ℤ
length_squared d e = ((e.u -ℤ d.u) *ℤ (e.u -ℤ d.u)) +ℤ ((e.v -ℤ d.v) *ℤ (e.v -ℤ d.v))

-- the whole line through both ends is at least r from the centre
abbrev pub is_beyond : ℕ → Point2 → Point2 → Bool
is_beyond r d e =
    nat_lt 0 (unsigned_abs (length_squared d e)) &&
    nat_le ((r * r) * unsigned_abs (length_squared d e)) (unsigned_abs (cross d e) * unsigned_abs (cross d e))

abbrev pub is_chord : Sector → Band → Point2 → Point2 → Bool
is_chord s b d e = is_within b.most d e && (is_beyond b.least d e && is_in s d e)

-- what is to know of an arc that lowers cells: its sector, how far its chords may be from the centre, and
-- with which radius they lower the cells to which level
pub record IsSwept (s : Stock) (t : Cylinder) (a : ArcShape) (sector : Sector) (b : Band) (room r level : ℕ) : Type 0 where
  pub grid : IsGrid s.grid
  pub thick : kappa s.grid + room ≤ radius t
  pub turns : IsSector a sector
  pub near : IsBand a room b
  pub least : b.least ≤ 2000020000
  pub most : b.most ≤ 2400000000
  pub small : room ≤ 300000000
  pub cutter : r ≡ radius t - (kappa s.grid + room)
  pub bound : r ≤ RADIUS_LIMIT
  pub tip : level ≡ level_of s (upper_tip t a)

-- the heights after some chords of an arc
abbrev pub AreSomeCut : Stock → Cylinder → ArcShape → List ℕ → List ℕ → Type 0
AreSomeCut s t a old new = (k : ℕ) × AreChordsCut s t a k old new
