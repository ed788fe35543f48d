-- The point at which the wheel begins: about the centre, and its distance from it.
use Rattle.std.proofs.Common.{◌≡◌, ℕ, ◌+◌, ◌-◌, ◌*◌, ◌<◌, ◌≤◌, ℤ, pos, ◌+ℤ◌, ◌-ℤ◌, ◌*ℤ◌, ◌≤ℤ◌, ◌<ℤ◌, unsigned_abs, inl, inr, refl, arith, ap, sym, subst, ◌∙◌}
use Rattle.std.specs.Prelude.{Bool}
use Rattle.std.proofs.lemmas.Int.{ints}
use Rattle.std.proofs.Math.Nat.{mul-le-mul_left}
use Rattle.ngc_fixed_length.specs.Places.{dot}
use Rattle.ngc_fixed_length.specs.declared.points.Point2.{Point2}
use Rattle.ngc_circle_walk.specs.declared.spoke.Roll.{Roll}
use Rattle.ngc_circle_walk.specs.declared.spoke.Roll.TheVariants.{Outward, Diagonal, Inward, Over}
use Rattle.ngc_circle_walk.specs.declared.spoke.Spoke.{Spoke}
use Rattle.ngc_fixed_length.specs.Grid.{distance}
use Rattle.ngc_circle_walk.specs.Around.{around, way_to}
use Rattle.ngc_circle_walk.specs.Entering.{IsEntry}
use Rattle.ngc_circle_walk.specs.Wheel.{square, rolled, CanRoll}
use Rattle.ngc_circle_walk.proofs.Rays.{square_le, from_squares}
use Rattle.ngc_circle_walk.proofs.QuadrantTurns.{square_around}
use Rattle.ngc_arc_geometry.proofs.Squares.{square_sum}
use Rattle.ngc_step_kernel.specs.declared.round.Vector2.{Vector2}
use Rattle.ngc_step_kernel.specs.declared.spot.Spot.{Spot}
use Rattle.ngc_step_kernel.specs.declared.moves.AxisMove.{AxisMove}
use Rattle.ngc_step_kernel.specs.declared.moves.AxisMove.TheVariants.{Back, Stay, Forward}
use Rattle.ngc_step_kernel.specs.declared.spot.PlaneMove.{PlaneMove}
use Rattle.ngc_step_kernel.specs.About.{IsAbout}
use Rattle.ngc_step_kernel.specs.Entered.{is_steep, way_cross, IsEntered}
use Rattle.ngc_step_kernel.specs.Move.{steps_of}
use Rattle.ngc_step_kernel.specs.Spots.{spot_moved, straight_moves}
use Rattle.ngc_step_kernel.specs.View.{squared, place_of, way_from}
use Rattle.ngc_step_kernel.specs.Ways.{IsWay}
use Rattle.ngc_step_kernel.proofs.ViewLemmas.{first_side, second_side}

pub about_joint : (g : ℕ) (c : Vector2) (p : Spot) (w : Vector2) (s : Spoke) → w ≡ way_from g c p → around s.quadrant s.x s.y ≡ place_of w → IsAbout g (place_of c) p s
about_joint g c p w s e h =
    let hu : (around s.quadrant s.x s.y).u ≡ w.u = ap (λ (q : Point2). q.u) h in
    let hv : (around s.quadrant s.x s.y).v ≡ w.v = ap (λ (q : Point2). q.v) h in
    let wu : w.u ≡ (p.u *ℤ pos g) -ℤ c.u = ap (λ (x : Vector2). x.u) e in
    let wv : w.v ≡ (p.v *ℤ pos g) -ℤ c.v = ap (λ (x : Vector2). x.v) e in
    record { u = omega (arith, ints, hu, wu); v = omega (arith, ints, hv, wv) }

-- a spoke's square is its vector's
pub square_of_way : (w : Vector2) (s : Spoke) → around s.quadrant s.x s.y ≡ place_of w → square s.x s.y ≡ squared w
square_of_way w s h = sym (square_around s.quadrant s.x s.y) ∙ ap (λ (q : Point2). unsigned_abs (dot q q)) h ∙ square_sum w.u w.v

pub near_joint : (n r g : ℕ) → 12 * n ≤ 12 * (r * r) + 17 * (r * g) + 6 * (g * g) → n ≤ (r + g) * (r + g)
near_joint n r g h = omega (arith, h)

pub near_way : (w v : Vector2) (r g : ℕ) → w ≡ v → 12 * squared v ≤ 12 * (r * r) + 17 * (r * g) + 6 * (g * g) → squared w ≤ (r + g) * (r + g)
near_way w v r g e h = rw e (near_joint (squared v) r g h)

-- the first point, and its position about the centre
pub record IsJoined (g r : ℕ) (c : Vector2) (p : Spot) (w : Vector2) (s : Spoke) : Type 0 where
  pub about : IsAbout g (place_of c) p s
  pub near : square s.x s.y ≤ (r + g) * (r + g)
  pub x : s.x ≤ 2900000000
  pub y : s.y ≤ 2900000000

pub joined : (g r : ℕ) (c : Vector2) (p : Spot) (w : Vector2) (s : Spoke) → w ≡ way_from g c p → around s.quadrant s.x s.y ≡ place_of w →
    12 * squared (way_from g c p) ≤ 12 * (r * r) + 17 * (r * g) + 6 * (g * g) →
    r ≤ 2000020000 → g ≤ 50000 → IsJoined g r c p w s
joined g r c p w s e h near hr hg =
    let n = near_way w (way_from g c p) r g e near in
    let m = square_of_way w s h in
    let all : square s.x s.y ≤ (r + g) * (r + g) = omega (arith, n, m) in
    let x = from_squares s.x (r + g) (omega (arith, all)) in
    let y = from_squares s.y (r + g) (omega (arith, all)) in
    record { about = about_joint g c p w s e h; near = all; x = omega (arith, x, hr, hg); y = omega (arith, y, hr, hg) }

pub is_way : (w v : Vector2) (r g : ℕ) → w ≡ v → 12 * squared v ≤ 12 * (r * r) + 17 * (r * g) + 6 * (g * g) → r ≤ 2000020000 → g ≤ 50000 → IsWay w
is_way w v r g e near hr hg =
    let n = near_way w v r g e near in
    let u = first_side w (r + g) n in
    let v' = second_side w (r + g) n in
    record { u = omega (arith, u, hr, hg); v = omega (arith, v', hr, hg) }

pub rolled_near : (g r : ℕ) (s : Spoke) (roll : Roll) → CanRoll g s roll → square s.x s.y ≤ (r + g) * (r + g) →
    square (rolled g roll s).x (rolled g roll s).y ≤ (r + 2 * g) * (r + 2 * g)
rolled_near g r s Outward can near =
    let y = from_squares s.y (r + g) (omega (arith, near)) in
    omega (arith, near, mul-le-mul_left g y)
rolled_near g r s Diagonal can near =
    let y = from_squares s.y (r + g) (omega (arith, near)) in
    let x = square_le (s.x - g) s.x (omega arith) in
    omega (arith, near, x, mul-le-mul_left g y)
rolled_near g r s Inward can near =
    let x = square_le (s.x - g) s.x (omega arith) in
    omega (arith, near, x)
rolled_near g r s Over can near =
    let x = square_le (g - s.x) g (omega arith) in
    omega (arith, near, x)

-- the move to the start's direction is possible
pub can_enter : (g limit : ℕ) (steep : Bool) (s : Spoke) (roll : Roll) → IsEntry g limit steep s roll → CanRoll g s roll
can_enter g limit steep s Outward h = tt
can_enter g limit steep s Diagonal h = h.0
can_enter g limit steep s Inward h = h.1
can_enter g limit steep s Over h = omega (arith, h)

-- and leads one step further
one_on : (p : ℤ) (m : AxisMove) → distance p (p +ℤ steps_of m) ≤ 1
one_on p Back = omega (arith, ints)
one_on p Stay = omega (arith, ints)
one_on p Forward = omega (arith, ints)

pub one_beside : (p q : Spot) (m : PlaneMove) → q ≡ spot_moved p m → straight_moves p q ≤ 1
one_beside p q m e = rw e (omega (arith, one_on p.u m.u, one_on p.v m.v))

none_on : (p : ℤ) → distance p p ≤ 0
none_on p = omega (arith, ints)

pub none_beside : (p : Spot) → straight_moves p p ≤ 1
none_beside p = omega (arith, none_on p.u, none_on p.v)

pub entered_from : (g limit : ℕ) (b w v : Vector2) (steep : Bool) (first s : Spoke) (roll : Roll) (z : ℤ) → v ≡ w → way_to first ≡ place_of v →
    (0 < unsigned_abs v.u + unsigned_abs v.v → 0 < first.x) → z ≡ way_cross b v → z <ℤ pos 0 → steep ≡ is_steep first.quadrant b →
    IsEntry g limit steep first roll → s ≡ rolled g roll first → IsEntered g limit b w s
entered_from g limit b w v steep first s roll z same at out area afterwards told entry on =
    let e : way_cross b v ≡ way_cross b w = ap (λ (x : Vector2). way_cross b x) same in (
      first,
      at ∙ ap (λ (x : Vector2). place_of x) same,
      subst (λ (x : Vector2). 0 < unsigned_abs x.u + unsigned_abs x.v → 0 < first.x) same out,
      inr (omega (arith, ints, afterwards, area, e), (roll, subst (λ t. IsEntry g limit t first roll) told entry, on)),
    )

pub stood_from : (g limit : ℕ) (b w v : Vector2) (first : Spoke) (z : ℤ) → v ≡ w → way_to first ≡ place_of v →
    (0 < unsigned_abs v.u + unsigned_abs v.v → 0 < first.x) → z ≡ way_cross b v → pos 0 ≤ℤ z → IsEntered g limit b w first
stood_from g limit b w v first z same at out area ahead =
    let e : way_cross b v ≡ way_cross b w = ap (λ (x : Vector2). way_cross b x) same in (
      first,
      at ∙ ap (λ (x : Vector2). place_of x) same,
      subst (λ (x : Vector2). 0 < unsigned_abs x.u + unsigned_abs x.v → 0 < first.x) same out,
      inl (omega (arith, ints, ahead, area, e), refl),
    )
