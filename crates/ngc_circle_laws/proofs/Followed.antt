-- A walk's points and a path that follows the arc: the points are in its box, and all clauses hold
-- for both sizes of circles.
use Rattle.std.proofs.Common.{◌≡◌, ℕ, zero, suc, ◌+◌, ◌-◌, ◌*◌, ◌<◌, ◌≤◌, pos, inl, sym, ◌∙◌, ap, subst, arith}
use Rattle.std.proofs.Math.Nat.{mul-le-mul_left}
use Rattle.ngc_circle_walk.specs.declared.spoke.Spoke.{Spoke}
use Rattle.ngc_circle_walk.specs.Directions.{IsNoLater}
use Rattle.ngc_circle_walk.proofs.NearEnd.{limit_of}
use Rattle.ngc_circle_walk.proofs.Rays.{square_le}
use Rattle.ngc_arc_geometry.specs.Shape.{ArcShape}
use Rattle.ngc_arc_geometry.specs.Radii.{outer_radius}
use Rattle.ngc_arc_geometry.specs.Sector.{extremes}
use Rattle.ngc_arc_geometry.specs.ArcBand.{leeway, spread, IsInBand}
use Rattle.ngc_arc_geometry.specs.ArcSides.{IsBetweenEnds}
use Rattle.ngc_arc_geometry.specs.ArcOrder.{Passes, GoesOn}
use Rattle.ngc_circle_laws.specs.ArcWalk.{IsWalk}
use Rattle.ngc_circle_laws.specs.Hull.{IsNearHull}
use Rattle.ngc_circle_laws.specs.Placed.{placed, turned_by, IsATurn}
use Rattle.ngc_circle_laws.specs.Round.{IsRound}
use Rattle.ngc_circle_laws.proofs.ArcBoxes.{IsNearBand, IsEnd, between_rays}
use Rattle.ngc_circle_laws.proofs.Circuit.{IsCircuit, below_on, above_on, walk_passes}
use Rattle.ngc_circle_laws.proofs.Lifts.{some_leeway, circuit_in_band}
use Rattle.ngc_circle_laws.proofs.Sectors.{turned_sum}
use Rattle.ngc_circle_laws.proofs.SmallCircuit.{IsSmallCircuit, small_near, small_in_band, small_passes}
use Rattle.ngc_circle_laws.proofs.Walks.{quadrant_on, past_on, before_on, no_later_end, no_more, walk_in_sector, walk_goes_on}

pub at_most_four : (n x y z w : ℕ) → IsATurn n x y z w → n ≤ 4
at_most_four zero x y z w h = omega arith
at_most_four (suc zero) x y z w h = omega arith
at_most_four (suc (suc zero)) x y z w h = omega arith
at_most_four (suc (suc (suc zero))) x y z w h = omega arith
at_most_four (suc (suc (suc (suc zero)))) x y z w h = omega arith
at_most_four (suc (suc (suc (suc (suc n))))) x y z w h = absurd h

-- all points of a walk that is near the arc's circles are in its box
pub walk_in_box : (a : ArcShape) (g r limit n : ℕ) (at : ℕ → Spoke) (quadrant : ℕ → ℕ) (b e : Spoke) (begun left i first last : ℕ) →
    IsWalk a g limit n at quadrant b e begun left → i ≤ n →
    IsNearBand a g r (at i) → IsEnd a b.x b.y first → IsEnd a e.x e.y last → 0 < outer_radius a → IsNearHull a (2 * g + spread a) (placed a (at i))
walk_in_box a g r limit n at quadrant b e begun left i first last w le band start end some =
    let before = before_on g limit n at quadrant (n - i) i left e w.rolling w.before_end (omega (arith, le)) in
    let few = no_more (quadrant i) left (at i) e before in
    let here : (at i).quadrant ≡ turned_by (begun + quadrant i) b.quadrant =
    quadrant_on g limit n at quadrant i w.rolling le ∙ ap (turned_by (quadrant i)) w.begins ∙ turned_sum begun (quadrant i) b.quadrant in
    let rest : left - quadrant i ≡ begun + left - (begun + quadrant i) = omega (arith, few) in
    let way : IsRound a b e (begun + left) = record {
      start = w.start;
      end = w.end;
      start_out = w.start_out;
      end_out = w.end_out;
      to_end = w.to_end ∙ ap (turned_by left) w.begins ∙ turned_sum begun left b.quadrant;
      turn = w.turn;
      some_radius = some;
    } in
    between_rays a g r b e (at i) (begun + left) (begun + quadrant i) first last way (at_most_four (begun + left) b.x b.y e.x e.y w.turn) band start end here
    (omega (arith, few))
    (past_on g limit n at quadrant i begun b.x b.y w.rolling w.past_start le)
    (subst (λ m. IsNoLater m (at i).x (at i).y e.x e.y) rest (no_later_end (quadrant i) left (at i) e before))

-- ---- the clauses

-- each point is near the arc, no move turns back, and the quadrant points are passed
pub record Keeps (a : ArcShape) (g n : ℕ) (at : ℕ → Spoke) : Type 0 where
  pub band : (k : ℕ) → k ≤ n → IsInBand a (leeway (pos g) a) (placed a (at k))
  pub sector : (d k : ℕ) → k ≤ n → IsBetweenEnds a d (placed a (at k))
  pub box : (k : ℕ) → k ≤ n → IsNearHull a (2 * g + spread a) (placed a (at k))
  pub onward : (d k : ℕ) → k < n → GoesOn a d (placed a (at k)) (placed a (at (k + 1)))
  pub order : Passes (λ k. placed a (at k)) n (leeway (pos g) a + g + spread a) 0 (extremes a)

pub large_near : (a : ArcShape) (g q h k l v n : ℕ) (at : ℕ → Spoke) (quadrant : ℕ → ℕ) (b e : Spoke) (begun left i : ℕ) →
    IsCircuit a g q h k l v n at quadrant b e begun left → i ≤ n → IsNearBand a g (q + 1) (at i)
large_near a g q h k l v n at quadrant b e begun left i c le =
    let r = c.rim in
    let below = below_on a g q h k l v n at quadrant b e begun left i c le in
    let above = above_on a g q h k l v n at quadrant b e begun left i c le in
    record {
      inside = c.inside;
      outside = c.outside;
      below = (
          let lo : 5 * (q + 1 + l) ≤ 5 * (q + 1) + 4 * g = omega (arith, r.l_high) in
          let a = square_le (5 * (q + 1 + l)) (5 * (q + 1) + 4 * g) lo in
          let b = mul-le-mul_left g r.far in
          omega (arith, below.all, a, b));
      above = (
          let t = q + 1 - 2 * g in
          let et : t + 2 * g ≡ q + 1 = omega (arith, r.far) in
          let ev : t + g ≤ v = omega (arith, et, r.inner, r.l_high) in
          let a = square_le (t + g) v ev in
          omega (arith, above.all, a));
    }

pub large_keeps : (a : ArcShape) (g q h k l v n : ℕ) (at : ℕ → Spoke) (quadrant : ℕ → ℕ) (b e : Spoke) (begun left first last : ℕ) →
    IsCircuit a g q h k l v n at quadrant b e begun left →
    IsEnd a b.x b.y first → IsEnd a e.x e.y last → Keeps a g n at
large_keeps a g q h k l v n at quadrant b e begun left first last c start end =
    let some = some_leeway g a in
    record {
      band = λ i le. circuit_in_band a g q h k l v n at quadrant b e begun left i (leeway (pos g) a) c le some;
      sector = λ d i le. inl (walk_in_sector a g (limit_of q h) n at quadrant b e begun left i c.walk le);
      box = λ i le. walk_in_box a g (q + 1) (limit_of q h) n at quadrant b e begun left i first last c.walk le
          (large_near a g q h k l v n at quadrant b e begun left i c le) start end (omega (arith, c.outside));
      onward = λ d i le. inl (walk_goes_on a g (limit_of q h) n at quadrant i c.walk.rolling le);
      order = walk_passes a g q h k l v n at quadrant b e begun left (leeway (pos g) a + g + spread a) c (omega (arith, some));
    }

pub small_keeps : (a : ArcShape) (g o h l m v r n : ℕ) (at : ℕ → Spoke) (quadrant : ℕ → ℕ) (b e : Spoke) (begun left first last : ℕ) →
    IsSmallCircuit a g o h l m v r n at quadrant b e begun left →
    leeway (pos g) a ≡ 4 * g → 0 < outer_radius a → IsEnd a b.x b.y first → IsEnd a e.x e.y last → Keeps a g n at
small_keeps a g o h l m v r n at quadrant b e begun left first last c wide some start end = record {
  band = λ i le. subst (λ w. IsInBand a w (placed a (at i))) (sym wide) (small_in_band a g o h l m v r n at quadrant b e begun left i c le);
  sector = λ d i le. inl (walk_in_sector a g ((o + h) * (o + h)) n at quadrant b e begun left i c.walk le);
  box = λ i le. walk_in_box a g r ((o + h) * (o + h)) n at quadrant b e begun left i first last c.walk le
      (small_near a g o h l m v r n at quadrant b e begun left i c le) start end some;
  onward = λ d i le. inl (walk_goes_on a g ((o + h) * (o + h)) n at quadrant i c.walk.rolling le);
  order = small_passes a g o h l m v r n at quadrant b e begun left (leeway (pos g) a + g + spread a) c (omega (arith, wide));
}
