-- A course over the grid of an arc's plane that follows the arc. Our own.
use Rattle.std.specs.Prelude.{ℕ, ◌+◌, ◌*◌, ◌<◌, ◌≤◌, pos, ◌*ℤ◌}
use Rattle.ngc_fixed_length.specs.declared.modes.Turn.{Turn}
use Rattle.ngc_fixed_length.specs.declared.points.Point2.{Point2}
use Rattle.ngc_arc_geometry.specs.Shape.{ArcShape}
use Rattle.ngc_arc_geometry.specs.Radii.{outer_radius}
use Rattle.ngc_arc_geometry.specs.Sector.{extremes}
use Rattle.ngc_arc_geometry.specs.ArcBand.{leeway, spread, IsInBand}
use Rattle.ngc_arc_geometry.specs.ArcSides.{IsBetweenEnds}
use Rattle.ngc_arc_geometry.specs.ArcOrder.{Passes, GoesOn}
use Rattle.ngc_circle_laws.specs.Hull.{IsNearHull}
use Rattle.ngc_step_kernel.specs.declared.spot.Spot.{Spot}
use Rattle.ngc_step_kernel.specs.Round.{turned}

-- a grid point in nanometres, in the coordinates of the arc's plane
abbrev pub laid : ℕ → Turn → Spot → Point2
laid g t p = record { u = p.u *ℤ pos g; v = turned t (p.v *ℤ pos g) }

-- in the arc's band, in its sector or near an end, and in its box
pub record IsByArc (a : ArcShape) (g w : ℕ) (p : Point2) : Type 0 where
  pub band : IsInBand a w p
  pub sector : IsBetweenEnds a (w + spread a) p
  pub box : IsNearHull a (2 * g + spread a) p

-- points 0 to n follow the arc
pub record FollowsInPlane (a : ArcShape) (g n : ℕ) (at : ℕ → Point2) : Type 0 where
  pub near : (k : ℕ) → k ≤ n → IsByArc a g (leeway (pos g) a) (at k)
  pub onward : (k : ℕ) → k < n → GoesOn a (4 * g + spread a) (at k) (at (k + 1))
  pub order : Passes at n (leeway (pos g) a + g + spread a) 0 (extremes a)
  pub short : n * g ≤ 8 * outer_radius a + 32 * spread a + 64 * g
