-- Ends as spokes, and the number of quadrants between them.
use Rattle.std.proofs.Common.{◌≡◌, ℕ, zero, suc, ◌+◌, ◌*◌, ◌<◌, ◌≤◌, ℤ, pos, negsuc, ◌+ℤ◌, ◌-ℤ◌, neg_ℤ, ◌≤ℤ◌, ◌⊎◌, inl, inr, refl, sym, ◌∙◌, ap, subst, arith}
use Rattle.std.proofs.lemmas.Int.{ints}
use Rattle.std.proofs.lemmas.Nat.{mul-le}
use Rattle.ngc_fixed_length.specs.Places.{cross, from, shifted}
use Rattle.ngc_fixed_length.specs.declared.modes.Turn.{Turn}
use Rattle.ngc_fixed_length.specs.declared.modes.Turn.TheVariants.{Clockwise, Counterclockwise}
use Rattle.ngc_fixed_length.specs.declared.points.Point2.{Point2}
use Rattle.ngc_circle_walk.specs.declared.spoke.Quadrant.{Quadrant}
use Rattle.ngc_circle_walk.specs.declared.spoke.Quadrant.TheVariants.{First, Second, Third, Fourth}
use Rattle.ngc_circle_walk.specs.declared.spoke.Spoke.{Spoke}
use Rattle.ngc_circle_walk.specs.Quadrants.{quadrants_to}
use Rattle.ngc_circle_walk.specs.Around.{around}
use Rattle.ngc_circle_walk.proofs.QuadrantTurns.{cross_same, cross_next}
use Rattle.ngc_arc_geometry.specs.Shape.{ArcShape}
use Rattle.ngc_arc_geometry.proofs.Points.{same_point}
use Rattle.ngc_circle_laws.specs.Placed.{mirrored, placed, turned_by, IsATurn}
use Rattle.ngc_circle_laws.proofs.CrossProducts.{twice, four_on}

unmirrored : (z : ℤ) → neg_ℤ (neg_ℤ z) ≡ z
unmirrored (pos n) = twice n
unmirrored (negsuc n) = refl

seen_twice : (t : Turn) (c p : Point2) → shifted c (mirrored t (mirrored t (from c p))) ≡ p
seen_twice Counterclockwise c p = same_point _ _ _ _ (omega (arith, ints)) (omega (arith, ints))
seen_twice Clockwise c p =
    same_point (c.u +ℤ (p.u -ℤ c.u)) (c.v +ℤ neg_ℤ (neg_ℤ (p.v -ℤ c.v))) p.u p.v (omega (arith, ints))
    (ap (λ z. c.v +ℤ z) (unmirrored (p.v -ℤ c.v)) ∙ omega (arith, ints))

-- the spoke of the vector from the centre to a point, mirrored if the arc is clockwise, is placed
-- at that point
pub placed_at : (a : ArcShape) (p : Point2) (s : Spoke) → around s.quadrant s.x s.y ≡ mirrored a.turn (from a.centre p) → p ≡ placed a s
placed_at a p s h = sym (ap (λ (d : Point2). shifted a.centre (mirrored a.turn d)) h ∙ seen_twice a.turn a.centre p)

-- the number that the code computes
pub quadrants_counted : (p q : Quadrant) → q ≡ turned_by (quadrants_to p q) p
quadrants_counted First First = refl
quadrants_counted First Second = refl
quadrants_counted First Third = refl
quadrants_counted First Fourth = refl
quadrants_counted Second First = refl
quadrants_counted Second Second = refl
quadrants_counted Second Third = refl
quadrants_counted Second Fourth = refl
quadrants_counted Third First = refl
quadrants_counted Third Second = refl
quadrants_counted Third Third = refl
quadrants_counted Third Fourth = refl
quadrants_counted Fourth First = refl
quadrants_counted Fourth Second = refl
quadrants_counted Fourth Third = refl
quadrants_counted Fourth Fourth = refl

-- By the path's rule the end e is `left` quadrants from the walk's first point. That is the number
-- counted, from 0 to 3, with one exception: if none are counted and e is not ahead of the start b
-- by less than half a turn, it is four. If three are counted and e is ahead in this way, no walk
-- begins.
abbrev pub IsCounted : ℕ → ℕ → ℤ → Type 0
IsCounted zero left area = (((pos 1 ≤ℤ area) × (left ≡ 0)) ⊎ ((area ≤ℤ pos 0) × (left ≡ 4)))
IsCounted (suc zero) left area = left ≡ 1
IsCounted (suc (suc zero)) left area = left ≡ 2
IsCounted (suc (suc (suc zero))) left area = (left ≡ 3) × (area ≤ℤ pos 0)
IsCounted (suc (suc (suc (suc n)))) left area = ⊥

-- so the turn from the start to the end is at most a full one, if the walk begins in the start's
-- quadrant or in the next one
pub counted_turn : (b e : Spoke) (begun n left : ℕ) → begun ≤ 1 → 0 < b.x → 0 < e.x → e.quadrant ≡ turned_by n (turned_by begun b.quadrant) →
    IsCounted n left (cross (around b.quadrant b.x b.y) (around e.quadrant e.x e.y)) → IsATurn (begun + left) b.x b.y e.x e.y
counted_turn b e zero zero left few bx ex he h =
    let c : cross (around b.quadrant b.x b.y) (around e.quadrant e.x e.y) ≡ pos (b.x * e.y) -ℤ pos (b.y * e.x) =
    (rw he (cross_same b.quadrant b.x b.y e.x e.y)) in
    elim h [
      | inl ahead ↦ (
          let z : 0 ≡ 0 + left = omega (arith, ahead.1) in
          let sign : pos 1 ≤ℤ (pos (b.x * e.y) -ℤ pos (b.y * e.x)) = subst (λ t. pos 1 ≤ℤ t) c ahead.0 in
          subst (λ k. IsATurn k b.x b.y e.x e.y) z (omega (arith, ints, sign)))
      | inr round ↦ (
          let z : 4 ≡ 0 + left = omega (arith, round.1) in
          let sign : (pos (b.x * e.y) -ℤ pos (b.y * e.x)) ≤ℤ pos 0 = subst (λ t. t ≤ℤ pos 0) c round.0 in
          subst (λ k. IsATurn k b.x b.y e.x e.y) z (omega (arith, ints, sign)))
    ]
counted_turn b e zero (suc zero) left few bx ex he h = let z : 1 ≡ 0 + left = omega (arith, h) in subst (λ k. IsATurn k b.x b.y e.x e.y) z tt
counted_turn b e zero (suc (suc zero)) left few bx ex he h = let z : 2 ≡ 0 + left = omega (arith, h) in subst (λ k. IsATurn k b.x b.y e.x e.y) z tt
counted_turn b e zero (suc (suc (suc zero))) left few bx ex he h = let m = h.0 in let z : 3 ≡ 0 + left = omega (arith, m) in
    subst (λ k. IsATurn k b.x b.y e.x e.y) z tt
counted_turn b e zero (suc (suc (suc (suc n)))) left few bx ex he h = absurd h
counted_turn b e (suc zero) zero left few bx ex he h =
    let c : cross (around b.quadrant b.x b.y) (around e.quadrant e.x e.y) ≡ pos (b.x * e.x + b.y * e.y) = (rw he (cross_next b.quadrant b.x b.y e.x e.y)) in
    elim h [
      | inl ahead ↦ (let z : 1 ≡ 1 + left = omega (arith, ahead.1) in subst (λ k. IsATurn k b.x b.y e.x e.y) z tt)
      | inr round ↦ (
          let sign : pos (b.x * e.x + b.y * e.y) ≤ℤ pos 0 = subst (λ t. t ≤ℤ pos 0) c round.0 in
          absurd (omega (arith, ints, sign, mul-le 1 1 b.x e.x bx ex)))
    ]
counted_turn b e (suc zero) (suc zero) left few bx ex he h = let z : 2 ≡ 1 + left = omega (arith, h) in subst (λ k. IsATurn k b.x b.y e.x e.y) z tt
counted_turn b e (suc zero) (suc (suc zero)) left few bx ex he h = let z : 3 ≡ 1 + left = omega (arith, h) in subst (λ k. IsATurn k b.x b.y e.x e.y) z tt
counted_turn b e (suc zero) (suc (suc (suc zero))) left few bx ex he h =
    let m = h.0 in
    let z : 4 ≡ 1 + left = omega (arith, m) in
    let same : e.quadrant ≡ b.quadrant = he ∙ four_on b.quadrant in
    let c : cross (around b.quadrant b.x b.y) (around e.quadrant e.x e.y) ≡ pos (b.x * e.y) -ℤ pos (b.y * e.x) =
    (rw same (cross_same b.quadrant b.x b.y e.x e.y)) in
    let sign : (pos (b.x * e.y) -ℤ pos (b.y * e.x)) ≤ℤ pos 0 = subst (λ t. t ≤ℤ pos 0) c h.1 in
    subst (λ k. IsATurn k b.x b.y e.x e.y) z (omega (arith, ints, sign))
counted_turn b e (suc zero) (suc (suc (suc (suc n)))) left few bx ex he h = absurd h
counted_turn b e (suc (suc m)) n left few bx ex he h = absurd (omega (arith, few))
