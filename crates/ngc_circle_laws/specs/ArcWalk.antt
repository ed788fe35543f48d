-- Walks of a wheel round an arc's centre, from the ray of its start to the ray of its end, and how
-- they follow the arc. Our own.
use Rattle.std.specs.Prelude.{◌≡◌, ◌⊎◌, ℕ, ◌+◌, ◌-◌, ◌*◌, ◌/◌, ◌<◌, ◌≤◌, pos, ◌≤ℤ◌, true}
use Rattle.ngc_circle_walk.specs.declared.spoke.Spoke.{Spoke}
use Rattle.ngc_circle_walk.specs.Bounds.{IsBelow, IsAbove}
use Rattle.ngc_circle_walk.specs.Directions.{IsNoLater}
use Rattle.ngc_circle_walk.specs.Rolling.{IsRolling}
use Rattle.ngc_arc_geometry.specs.Shape.{ArcShape, start_of, end_of}
use Rattle.ngc_arc_geometry.specs.Radii.{inner_radius, outer_radius}
use Rattle.ngc_arc_geometry.specs.Sector.{turn_from, in_sector, extremes}
use Rattle.ngc_arc_geometry.specs.ArcBand.{spread, IsInBand}
use Rattle.ngc_arc_geometry.specs.ArcOrder.{Passes}
use Rattle.ngc_circle_laws.specs.Placed.{placed, turned_by, first_axis, IsATurn}

-- the point s, `here` quadrants from the start, has not reached the ray of the end e, `last`
-- quadrants from the start
abbrev pub IsBeforeEnd : ℕ → ℕ → Spoke → Spoke → Type 0
IsBeforeEnd here last s e = (here < last) ⊎ ((here ≡ last) × (s.y * e.x < s.x * e.y))

-- The moves of a wheel about the centre of an arc from b to e. Point 0 is `begun` quadrants from b,
-- at or past the ray of b. The end e is `left` quadrants from there. Point n is before the ray of
-- e.
pub record IsWalk (a : ArcShape) (g limit n : ℕ) (at : ℕ → Spoke) (quadrant : ℕ → ℕ) (b e : Spoke)
    (begun left : ℕ) : Type 0 where
  pub start : start_of a ≡ placed a b
  pub end : end_of a ≡ placed a e
  pub start_out : 0 < b.x
  pub end_out : 0 < e.x
  pub some_step : 0 < g
  pub room : g * g ≤ limit
  pub rolling : IsRolling g limit n at quadrant
  pub some_place : 0 < (at 0).x + (at 0).y
  pub begins : (at 0).quadrant ≡ turned_by begun b.quadrant
  pub past_start : IsNoLater begun b.x b.y (at 0).x (at 0).y
  pub to_end : e.quadrant ≡ turned_by left (at 0).quadrant
  pub turn : IsATurn (begun + left) b.x b.y e.x e.y
  pub before_end : IsBeforeEnd (quadrant n) left (at n) e

-- A walk along a circle of radius r, which is at least eight steps and between the arc's two radii.
-- If the start is on a half axis, or the walk begins past the next one, it begins less than a step
-- past that axis. It ends in the quadrant of the arc's end, or less than a step before that
-- quadrant.
pub record IsArcWalk (a : ArcShape) (g r n : ℕ) (at : ℕ → Spoke) (quadrant : ℕ → ℕ) (b e : Spoke)
    (begun left : ℕ) : Type 0 where
  pub step : 500 ≤ g
  pub large : 8 * g ≤ r
  pub walk : IsWalk a g ((r + 2 * g / 5) * (r + 2 * g / 5)) n at quadrant b e begun left
  pub below : IsBelow g ((r + 4 * g / 5) * (r + 4 * g / 5)) (at 0)
  pub above : IsAbove g (r - 4 * g / 5) (at 0)
  pub inside : inner_radius a ≤ r
  pub outside : r ≤ outer_radius a
  pub soon : begun ≤ first_axis b.y
  pub beside : first_axis b.y ≤ begun → (at 0).y ≤ g
  pub ends : (quadrant n ≡ left) ⊎ ((quadrant n + 1 ≡ left) × ((at n).x < g))

-- points 0 to n follow the arc: they are within a step of its circles and in its sector, no move
-- turns back, and they pass each of its quadrant points in order, within two steps and the
-- difference of its radii
pub record Follows (a : ArcShape) (g n : ℕ) (at : ℕ → Spoke) : Type 0 where
  pub band : (k : ℕ) → k ≤ n → IsInBand a g (placed a (at k))
  pub sector : (k : ℕ) → k ≤ n → in_sector a (placed a (at k)) ≡ true
  pub onward : (k : ℕ) → k < n → pos 0 ≤ℤ turn_from a (placed a (at k)) (placed a (at (k + 1)))
  pub order : Passes (λ k. placed a (at k)) n (spread a + 2 * g) 0 (extremes a)

abbrev pub WalksFollow : Type 0
WalksFollow =
    (a : ArcShape) (g r n : ℕ) (at : ℕ → Spoke) (quadrant : ℕ → ℕ) (b e : Spoke) (begun left : ℕ) →
    IsArcWalk a g r n at quadrant b e begun left → Follows a g n at
