-- The vector from the joint to the end, in the coordinates of the start's quadrant: along its first
-- half axis and along its second.
use Rattle.std.proofs.Common.{◌≡◌, ℕ, ◌+◌, ◌*◌, ◌<◌, ◌≤◌, ℤ, pos, ◌<ℤ◌, ◌≤ℤ◌, ◌+ℤ◌, ◌-ℤ◌, ◌*ℤ◌, neg_ℤ, unsigned_abs, ◌⊎◌, inl, inr, refl, sym, ◌∙◌, subst}
use Rattle.std.proofs.Common.{arith}
use Rattle.std.specs.Prelude.{Bool}
use Rattle.std.proofs.lemmas.Int.{ints}
use borrow.Author.Differences.{neg_is}
use Rattle.ngc_fixed_length.specs.Places.{cross}
use Rattle.ngc_fixed_length.specs.declared.points.Point2.{Point2}
use Rattle.ngc_circle_walk.specs.declared.spoke.Quadrant.{Quadrant}
use Rattle.ngc_circle_walk.specs.declared.spoke.Quadrant.TheVariants.{First, Second, Third, Fourth}
use Rattle.ngc_circle_walk.specs.declared.spoke.Roll.{Roll}
use Rattle.ngc_circle_walk.specs.declared.spoke.Spoke.{Spoke}
use Rattle.ngc_circle_walk.specs.Around.{around, way_to}
use Rattle.ngc_circle_walk.specs.Entering.{IsEntry}
use Rattle.ngc_circle_walk.specs.Quadrants.{following}
use Rattle.ngc_circle_walk.specs.Wheel.{rolled}
use Rattle.ngc_circle_walk.proofs.WheelStart.{IsNearJoint}
use Rattle.ngc_circle_walk.proofs.NearEnd.{IsRim, IsRay, limit_of}
use Rattle.ngc_circle_laws.proofs.Circuit.{gap}
use Rattle.ngc_circle_laws.proofs.NearEndArcs.{IsPair, IsPlacedJoint, large_behind, stands_here, rolls_here, over_here, over_pair, over_behind, back_pair, beyond_pair}
use Rattle.ngc_circle_laws.proofs.NearEndArcs.{beyond_behind}
use Rattle.ngc_circle_laws.proofs.ReachedEndRays.{IsReached, by_stands, by_enters}

-- the vector from p to q is m along the quadrant's first half axis and n along its second
abbrev pub IsTurned : Quadrant → Point2 → Point2 → ℤ → ℤ → Type 0
IsTurned First p q m n = ((q.u -ℤ p.u) ≡ m) × ((q.v -ℤ p.v) ≡ n)
IsTurned Second p q m n = ((q.v -ℤ p.v) ≡ m) × ((p.u -ℤ q.u) ≡ n)
IsTurned Third p q m n = ((p.u -ℤ q.u) ≡ m) × ((p.v -ℤ q.v) ≡ n)
IsTurned Fourth p q m n = ((p.v -ℤ q.v) ≡ m) × ((q.u -ℤ p.u) ≡ n)

turned_here : (c : Quadrant) (x y z w : ℕ) → IsTurned c (around c x y) (around c z w) (pos z -ℤ pos x) (pos w -ℤ pos y)
turned_here First x y z w = (refl, refl)
turned_here Second x y z w = let f = neg_is (pos y) in let g = neg_is (pos w) in (refl, omega (arith, ints, f.0, f.1, g.0, g.1))
turned_here Third x y z w =
    let f = neg_is (pos y) in let g = neg_is (pos w) in let h = neg_is (pos x) in let i = neg_is (pos z) in
    (omega (arith, ints, h.0, h.1, i.0, i.1), omega (arith, ints, f.0, f.1, g.0, g.1))
turned_here Fourth x y z w = let h = neg_is (pos x) in let i = neg_is (pos z) in (omega (arith, ints, h.0, h.1, i.0, i.1), refl)

-- both in the next quadrant
turned_next : (c : Quadrant) (x y z w : ℕ) → IsTurned c (around (following c) x y) (around (following c) z w) (pos y -ℤ pos w) (pos z -ℤ pos x)
turned_next First x y z w = let f = neg_is (pos y) in let g = neg_is (pos w) in (omega (arith, ints, f.0, f.1, g.0, g.1), refl)
turned_next Second x y z w =
    let f = neg_is (pos y) in let g = neg_is (pos w) in let h = neg_is (pos x) in let i = neg_is (pos z) in
    (omega (arith, ints, f.0, f.1, g.0, g.1), omega (arith, ints, h.0, h.1, i.0, i.1))
turned_next Third x y z w = let h = neg_is (pos x) in let i = neg_is (pos z) in (refl, omega (arith, ints, h.0, h.1, i.0, i.1))
turned_next Fourth x y z w = (refl, refl)

-- the second one in the next quadrant
turned_on : (c : Quadrant) (x y z w : ℕ) → IsTurned c (around c x y) (around (following c) z w) (neg_ℤ (pos (x + w))) (pos z -ℤ pos y)
turned_on First x y z w = let g = neg_is (pos w) in let s = neg_is (pos (x + w)) in (omega (arith, ints, g.0, g.1, s.0, s.1), refl)
turned_on Second x y z w =
    let f = neg_is (pos y) in let g = neg_is (pos w) in let i = neg_is (pos z) in let s = neg_is (pos (x + w)) in
    (omega (arith, ints, g.0, g.1, s.0, s.1), omega (arith, ints, f.0, f.1, i.0, i.1))
turned_on Third x y z w =
    let f = neg_is (pos y) in let h = neg_is (pos x) in let i = neg_is (pos z) in let s = neg_is (pos (x + w)) in
    (omega (arith, ints, h.0, h.1, s.0, s.1), omega (arith, ints, f.0, f.1, i.0, i.1))
turned_on Fourth x y z w = let h = neg_is (pos x) in let s = neg_is (pos (x + w)) in (omega (arith, ints, h.0, h.1, s.0, s.1), refl)

-- the first one in the next quadrant
turned_back : (c : Quadrant) (x y z w : ℕ) → IsTurned c (around (following c) x y) (around c z w) (pos (z + y)) (pos w -ℤ pos x)
turned_back First x y z w = let f = neg_is (pos y) in (omega (arith, ints, f.0, f.1), refl)
turned_back Second x y z w =
    let f = neg_is (pos y) in let g = neg_is (pos w) in let h = neg_is (pos x) in
    (omega (arith, ints, f.0, f.1), omega (arith, ints, g.0, g.1, h.0, h.1))
turned_back Third x y z w =
    let g = neg_is (pos w) in let h = neg_is (pos x) in let i = neg_is (pos z) in
    (omega (arith, ints, i.0, i.1), omega (arith, ints, g.0, g.1, h.0, h.1))
turned_back Fourth x y z w = let i = neg_is (pos z) in (omega (arith, ints, i.0, i.1), refl)

-- the first one in the quadrant before
turned_before : (c : Quadrant) (x y z w : ℕ) → IsTurned (following c) (around c x y) (around (following c) z w) (pos z -ℤ pos y) (pos (x + w))
turned_before First x y z w = let g = neg_is (pos w) in (refl, omega (arith, ints, g.0, g.1))
turned_before Second x y z w =
    let f = neg_is (pos y) in let g = neg_is (pos w) in let i = neg_is (pos z) in
    (omega (arith, ints, f.0, f.1, i.0, i.1), omega (arith, ints, g.0, g.1))
turned_before Third x y z w =
    let f = neg_is (pos y) in let h = neg_is (pos x) in let i = neg_is (pos z) in
    (omega (arith, ints, f.0, f.1, i.0, i.1), omega (arith, ints, h.0, h.1))
turned_before Fourth x y z w = let h = neg_is (pos x) in (refl, omega (arith, ints, h.0, h.1))

-- m along the first half axis, on which a turn leads back, and n along the second, on which it
-- leads forward
pub record IsOnward (g : ℕ) (m n : ℤ) : Type 0 where
  pub first_ahead : (pos 2 *ℤ m) ≤ℤ pos (g + 40)
  pub first_behind : pos 0 <ℤ ((pos 20 *ℤ m) +ℤ pos (37 * g))
  pub second_ahead : (pos 20 *ℤ n) <ℤ pos (37 * g)
  pub second_behind : pos 0 ≤ℤ ((pos 4 *ℤ n) +ℤ pos (3 * g))
  pub one : (pos 0 ≤ℤ ((pos 20 *ℤ m) +ℤ pos (21 * g))) ⊎ ((pos 20 *ℤ n) ≤ℤ pos (21 * g))

from_pair : (g : ℕ) (m n : ℤ) → IsPair g (unsigned_abs m) (unsigned_abs n) → (pos 2 *ℤ m) ≤ℤ pos (g + 40) → pos 0 ≤ℤ ((pos 4 *ℤ n) +ℤ pos (3 * g)) →
    IsOnward g m n
from_pair g m n pair first second = record {
  first_ahead = first;
  first_behind = omega (arith, ints, pair.first);
  second_ahead = omega (arith, ints, pair.second);
  second_behind = second;
  one = elim pair.one [ inl a ↦ inl (omega (arith, ints, a)) | inr b ↦ inr (omega (arith, ints, b)) ];
}

-- in the start's quadrant
abbrev pub GoesOnward : ℕ → Spoke → Spoke → Spoke → Type 0
GoesOnward g b j e = (m : ℤ) × (n : ℤ) × IsTurned b.quadrant (way_to j) (way_to e) m n × IsOnward g m n

onward_by : (g : ℕ) (b j e : Spoke) (c d : Quadrant) (m n : ℤ) → j.quadrant ≡ c → e.quadrant ≡ d →
    IsTurned b.quadrant (around c j.x j.y) (around d e.x e.y) m n → IsOnward g m n → GoesOnward g b j e
onward_by g b j e c d m n hj he t o = (
  m,
  n,
  subst (λ (z : Quadrant). IsTurned b.quadrant (around z j.x j.y) (way_to e) m n) (sym hj)
      (subst (λ (z : Quadrant). IsTurned b.quadrant (around c j.x j.y) (around z e.x e.y) m n) (sym he) t),
  o,
)

onward_here : (g : ℕ) (b j e : Spoke) → j.quadrant ≡ b.quadrant → e.quadrant ≡ b.quadrant → IsPair g (gap j.x e.x) (gap j.y e.y) → 500 ≤ g →
    2 * e.x ≤ 2 * j.x + g + 40 → 2 * j.y ≤ 2 * e.y + g + 2 → GoesOnward g b j e
onward_here g b j e hj he pair step first second =
    onward_by g b j e b.quadrant b.quadrant (pos e.x -ℤ pos j.x) (pos e.y -ℤ pos j.y) hj he (turned_here b.quadrant j.x j.y e.x e.y)
    (from_pair g (pos e.x -ℤ pos j.x) (pos e.y -ℤ pos j.y) pair (omega (arith, ints, first)) (omega (arith, ints, second, step)))

-- a wheel that begins at the joint
pub large_stands_onward : (g q h k l v p begun whole : ℕ) (steep : Bool) (b j e : Spoke) → IsRim g q h k l v → IsPlacedJoint g p (q + 1) b j →
    IsNearJoint g (q + 1) v steep j → IsRay q e.x e.y →
    IsReached b j e begun whole → GoesOnward g b j e
large_stands_onward g q h k l v p begun whole steep b j e r placed near ray reach =
    let w = large_behind g q p b j e placed ray in
    by_stands (GoesOnward g b j e) b j e begun whole reach (record {
      here = λ same to turn past. (
          let second : 2 * j.y ≤ 2 * e.y + g + 2 = omega (arith, w.second same turn) in
          onward_here g b j e same to (stands_here g q h k l v e.x e.y steep j r near ray past (w.first same turn) second) r.step (w.first same turn) second);
      back = λ next to turn. (
          let first = w.across next turn in
          let second : 2 * j.x ≤ 2 * e.y + g + 2 = omega (arith, w.second_next next turn) in
          let pair = back_pair g q h k l v j.x j.y e.x e.y r ray near.low (w.small_next next) first second in
          onward_by g b j e (following b.quadrant) b.quadrant (pos (e.x + j.y)) (pos e.y -ℤ pos j.x) next to (turned_back b.quadrant j.x j.y e.x e.y)
          (from_pair g (pos (e.x + j.y)) (pos e.y -ℤ pos j.x)
          (record { first = pair.first; second = omega (arith, ints, pair.second); one = inl (omega (arith, first, r.step)) })
          (omega (arith, ints, first)) (omega (arith, ints, second, r.step))));
      beyond = λ next to past. (
          let pair = beyond_pair g q h k l v j.x j.y e.x e.y r ray near.low (w.small_next next) past (w.high_next next) in
          let second = beyond_behind g q h k l v j.x j.y e.x e.y r ray near.low (w.small_next next) past (w.high_next next) in
          onward_by g b j e (following b.quadrant) (following b.quadrant) (pos j.y -ℤ pos e.y) (pos e.x -ℤ pos j.x) next to
          (turned_next b.quadrant j.x j.y e.x e.y)
          (from_pair g (pos j.y -ℤ pos e.y) (pos e.x -ℤ pos j.x) (record {
            first = omega (arith, ints, pair.second);
            second = omega (arith, ints, pair.first);
            one = elim pair.one [ inl a ↦ inr (omega (arith, ints, a)) | inr a ↦ inl (omega (arith, ints, a)) ];
          })
          (omega (arith, ints, w.small_next next)) (omega (arith, ints, second))));
    })

-- and one whose first point is a move away
pub large_enters_onward : (g q h k l v p begun whole : ℕ) (steep : Bool) (b j e : Spoke) (roll : Roll) → IsRim g q h k l v → IsPlacedJoint g p (q + 1) b j →
    IsNearJoint g (q + 1) v steep j → IsRay q e.x e.y → 0 < e.x →
    cross (way_to b) (way_to j) <ℤ pos 0 → IsEntry g (limit_of q h) steep j roll → IsReached b (rolled g roll j) e begun whole → GoesOnward g b j e
large_enters_onward g q h k l v p begun whole steep b j e roll r placed near ray some afterwards entry reach =
    let w = large_behind g q p b j e placed ray in
    by_enters (GoesOnward g b j e) g (limit_of q h) steep b j e roll begun whole reach afterwards entry (record {
      here = λ same to inside turn past. (
          let second : 2 * j.y ≤ 2 * e.y + g + 2 = omega (arith, w.second same turn) in
          onward_here g b j e same to (rolls_here g q h k l v e.x e.y steep j roll r near ray inside some entry past (w.first same turn) second) r.step
          (w.first same turn) second);
      over_here = λ same to less turn. (
          let second : 2 * j.y ≤ 2 * e.y + g + 2 = omega (arith, w.second same turn) in
          onward_here g b j e same to (over_here g q h k l v j.x j.y e.x e.y r ray near.low less (w.first same turn) second) r.step (w.first same turn) second);
      over = λ same to less past. (
          let pair = over_pair g q h k l v j.x j.y e.x e.y r ray near.low less past (w.high same) in
          let second = over_behind g q h k l v j.x j.y e.x e.y r ray near.low less past (w.high same) in
          let f = neg_is (pos (j.x + e.y)) in
          onward_by g b j e b.quadrant (following b.quadrant) (neg_ℤ (pos (j.x + e.y))) (pos e.x -ℤ pos j.y) same to (turned_on b.quadrant j.x j.y e.x e.y)
          (from_pair g (neg_ℤ (pos (j.x + e.y))) (pos e.x -ℤ pos j.y) (record {
            first = omega (arith, ints, pair.first, f.0, f.1);
            second = pair.second;
            one = elim pair.one [ inl a ↦ inl (omega (arith, ints, a, f.0, f.1)) | inr a ↦ inr a ];
          })
          (omega (arith, ints, f.0, f.1)) (omega (arith, ints, second))));
      before = λ before to less turn past. (
          let pair = over_pair g q h k l v j.x j.y e.x e.y r ray near.low less past (w.high_before before) in
          let first = w.first_before before turn in
          let t : IsTurned b.quadrant (around j.quadrant j.x j.y) (around (following j.quadrant) e.x e.y) (pos e.x -ℤ pos j.y) (pos (j.x + e.y)) =
          subst (λ (z : Quadrant). IsTurned z (around j.quadrant j.x j.y) (around (following j.quadrant) e.x e.y) (pos e.x -ℤ pos j.y) (pos (j.x + e.y)))
          (sym before) (turned_before j.quadrant j.x j.y e.x e.y) in
          onward_by g b j e j.quadrant (following j.quadrant) (pos e.x -ℤ pos j.y) (pos (j.x + e.y)) refl (to ∙ before) t
          (from_pair g (pos e.x -ℤ pos j.y) (pos (j.x + e.y)) (record {
            first = pair.second;
            second = pair.first;
            one = elim pair.one [ inl a ↦ inr a | inr a ↦ inl a ];
          })
          (omega (arith, ints, first)) (omega (arith, ints))));
    })
