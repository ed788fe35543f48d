-- An arc relative to its centre, so that it turns from u towards v: a clockwise one is mirrored.
use Rattle.std.specs.Prelude.{ℕ, zero, suc, Bool, true, false, if◌then◌else◌, Option, Some, None}
use Rattle.std.specs.Prelude.{◌+◌, ◌*◌, ◌<◌, ◌≤◌, ℤ, pos, ◌+ℤ◌, ◌-ℤ◌, ◌*ℤ◌, unsigned_abs}
use Rattle.ngc_fixed_length.specs.declared.modes.Turn.{Turn}
use Rattle.ngc_fixed_length.specs.declared.points.Point2.{Point2}
use Rattle.ngc_arc_geometry.specs.Shape.{ArcShape, start_of, end_of}
use Rattle.ngc_step_kernel.specs.declared.round.Vector2.{Vector2}
use Rattle.ngc_step_kernel.specs.declared.spot.Spot.{Spot}
use Rattle.ngc_step_kernel.specs.declared.view.View.{View}
use Rattle.ngc_step_kernel.specs.Round.{turned}

abbrev pub way_between : Turn → Point2 → Point2 → Vector2
way_between t c p = record { u = p.u -ℤ c.u; v = turned t (p.v -ℤ c.v) }

abbrev pub view_of : ArcShape → View
view_of a = record {
  centre = record { u = a.centre.u; v = turned a.turn a.centre.v };
  start = way_between a.turn a.centre (start_of a);
  end = way_between a.turn a.centre (end_of a);
}

-- the square of a vector's length
abbrev pub squared : Vector2 → ℕ
squared w = unsigned_abs w.u * unsigned_abs w.u + unsigned_abs w.v * unsigned_abs w.v

-- a vector from an arc's centre to one of its ends
pub record IsRadius (w : Vector2) : Type 0 where
  pub some : 0 < squared w
  pub bound : squared w ≤ 2000020000 * 2000020000

pub record IsView (a : View) : Type 0 where
  pub centre_u : unsigned_abs a.centre.u ≤ 93000000000
  pub centre_v : unsigned_abs a.centre.v ≤ 93000000000
  pub start : IsRadius a.start
  pub end : IsRadius a.end

-- along an axis, p steps of length g is the grid point nearest to the end of the vector b from c,
-- moved from radius s to r
abbrev pub IsMoved : ℕ → ℕ → ℕ → ℤ → ℤ → ℤ → Type 0
IsMoved g s r c b p =
    2 * unsigned_abs (((c *ℤ pos s) +ℤ (b *ℤ pos r)) -ℤ (p *ℤ pos (s * g))) ≤ s * g

-- the grid point nearest to the end of a vector from the centre
pub record IsNearestSpot (g : ℕ) (c w : Vector2) (p : Spot) : Type 0 where
  pub u : 2 * unsigned_abs ((c.u +ℤ w.u) -ℤ (p.u *ℤ pos g)) ≤ g
  pub v : 2 * unsigned_abs ((c.v +ℤ w.v) -ℤ (p.v *ℤ pos g)) ≤ g

-- a grid point within three metres of the centre on each axis
pub record IsInReach (g : ℕ) (c : Vector2) (p : Spot) : Type 0 where
  pub u : unsigned_abs ((p.u *ℤ pos g) -ℤ c.u) ≤ 3000000000
  pub v : unsigned_abs ((p.v *ℤ pos g) -ℤ c.v) ≤ 3000000000

-- the vector from the centre to a grid point
abbrev pub way_from : ℕ → Vector2 → Spot → Vector2
way_from g c p = record { u = (p.u *ℤ pos g) -ℤ c.u; v = (p.v *ℤ pos g) -ℤ c.v }

-- the number of quadrants from a wheel's first point to the end; it is counted from 0 to 3, and
-- `None` if the end is reached before the wheel moves
abbrev pub quadrants_left : ℕ → Bool → Bool → Option ℕ
quadrants_left zero true before = if before then Some 0 else None
quadrants_left zero false before = Some 4
quadrants_left (suc (suc (suc zero))) true before = None
quadrants_left n short before = Some n

abbrev pub place_of : Vector2 → Point2
place_of w = record { u = w.u; v = w.v }
