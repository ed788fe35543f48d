-- A point near the start's direction, rounded to the grid, is in the start's quadrant or next to
-- it.
use Rattle.std.proofs.Common.{◌≡◌, ℕ, zero, suc, ◌+◌, ◌*◌, ◌<◌, ◌≤◌, ℤ, pos, negsuc, ◌-ℤ◌, ◌*ℤ◌, neg_ℤ, unsigned_abs, ◌⊎◌, inl, inr, refl, arith}
use Rattle.std.proofs.lemmas.Bool.{cases_lt}
use Rattle.std.proofs.lemmas.Int.{ints}
use Rattle.std.proofs.Math.Nat.{mul-le-mul_left}
use borrow.Author.Differences.{neg_is}
use Rattle.ngc_fixed_length.specs.declared.points.Point2.{Point2}
use Rattle.ngc_circle_walk.specs.declared.spoke.Quadrant.{Quadrant}
use Rattle.ngc_circle_walk.specs.declared.spoke.Quadrant.TheVariants.{First, Second, Third, Fourth}
use Rattle.ngc_circle_walk.specs.declared.spoke.Spoke.{Spoke}
use Rattle.ngc_circle_walk.specs.Around.{around}
use Rattle.ngc_circle_walk.specs.Quadrants.{following}
use Rattle.ngc_circle_walk.proofs.JointMoves.{IsJoint}
use Rattle.ngc_circle_walk.proofs.QuadrantTurns.{neg_left}

abbrev point_at : ℤ → ℤ → Point2
point_at u v = record { u = u; v = v }

-- each vector but zero is a spoke's
pub some_spoke : (u v : ℤ) → 0 < unsigned_abs u + unsigned_abs v → (b : Spoke) × (around b.quadrant b.x b.y ≡ point_at u v) × (0 < b.x)
some_spoke (pos (suc m)) (pos n) h = (record { quadrant = First; x = suc m; y = n }, refl, omega arith)
some_spoke (pos zero) (pos (suc n)) h = (record { quadrant = Second; x = suc n; y = 0 }, refl, omega arith)
some_spoke (pos zero) (pos zero) h = absurd (omega (arith, ints, h))
some_spoke (pos zero) (negsuc n) h = (record { quadrant = Fourth; x = suc n; y = 0 }, refl, omega arith)
some_spoke (pos (suc m)) (negsuc n) h = (record { quadrant = Fourth; x = suc n; y = suc m }, refl, omega arith)
some_spoke (negsuc m) (pos (suc n)) h = (record { quadrant = Second; x = suc n; y = suc m }, refl, omega arith)
some_spoke (negsuc m) (pos zero) h = (record { quadrant = Third; x = suc m; y = 0 }, refl, omega arith)
some_spoke (negsuc m) (negsuc n) h = (record { quadrant = Third; x = suc m; y = suc n }, refl, omega arith)

-- along an axis j is b moved from the radius s to the radius r, to within half a step
abbrev pub IsMovedTo : ℕ → ℕ → ℕ → ℤ → ℤ → Type 0
IsMovedTo g s r b j = 2 * unsigned_abs ((b *ℤ pos r) -ℤ (j *ℤ pos s)) ≤ s * g

abbrev pub IsMovedPoint : ℕ → ℕ → ℕ → Point2 → Point2 → Type 0
IsMovedPoint g s r b j = IsMovedTo g s r b.u j.u × IsMovedTo g s r b.v j.v

same_side : (g s r b j : ℕ) → IsMovedTo g s r (pos b) (pos j) → IsJoint g s r j b
same_side g s r b j h = record { up = omega (arith, ints, h); down = omega (arith, ints, h) }

-- the same for negative ones
negative_side : (g s r b j : ℕ) → IsMovedTo g s r (neg_ℤ (pos b)) (neg_ℤ (pos j)) → IsJoint g s r j b
negative_side g s r b j h =
    let e = neg_left b r in let f = neg_left j s in
    let k = neg_is (pos (b * r)) in let m = neg_is (pos (j * s)) in
    record { up = omega (arith, ints, h, e, f, k, m); down = omega (arith, ints, h, e, f, k, m) }

-- if they are on opposite sides, both are small
abbrev pub IsAcross : ℕ → ℕ → ℕ → ℕ → ℕ → Type 0
IsAcross g s r b j = 2 * (s * j) + 2 * (r * b) ≤ s * g

far_side : (g s r b j : ℕ) → IsMovedTo g s r (pos b) (neg_ℤ (pos j)) → IsAcross g s r b j
far_side g s r b j h = let f = neg_left j s in let m = neg_is (pos (j * s)) in omega (arith, ints, h, f, m)

near_side : (g s r b j : ℕ) → IsMovedTo g s r (neg_ℤ (pos b)) (pos j) → IsAcross g s r b j
near_side g s r b j h = let f = neg_left b r in let m = neg_is (pos (b * r)) in omega (arith, ints, h, f, m)

-- ---- by quadrants

pub moved_same : (q : Quadrant) (g s r bx by x y : ℕ) → IsMovedPoint g s r (around q bx by) (around q x y) → IsJoint g s r x bx × IsJoint g s r y by
moved_same First g s r bx by x y h = (same_side g s r bx x h.0, same_side g s r by y h.1)
moved_same Second g s r bx by x y h = (same_side g s r bx x h.1, negative_side g s r by y h.0)
moved_same Third g s r bx by x y h = (negative_side g s r bx x h.0, negative_side g s r by y h.1)
moved_same Fourth g s r bx by x y h = (negative_side g s r bx x h.1, same_side g s r by y h.0)

pub moved_next : (q : Quadrant) (g s r bx by x y : ℕ) → IsMovedPoint g s r (around q bx by) (around (following q) x y) →
    IsJoint g s r x by × IsAcross g s r bx y
moved_next First g s r bx by x y h = (same_side g s r by x h.1, far_side g s r bx y h.0)
moved_next Second g s r bx by x y h = (negative_side g s r by x h.0, far_side g s r bx y h.1)
moved_next Third g s r bx by x y h = (negative_side g s r by x h.1, near_side g s r bx y h.0)
moved_next Fourth g s r bx by x y h = (same_side g s r by x h.0, near_side g s r bx y h.1)

pub moved_opposite : (q : Quadrant) (g s r bx by x y : ℕ) → IsMovedPoint g s r (around q bx by) (around (following (following q)) x y) →
    IsAcross g s r bx x × IsAcross g s r by y
moved_opposite First g s r bx by x y h = (far_side g s r bx x h.0, far_side g s r by y h.1)
moved_opposite Second g s r bx by x y h = (far_side g s r bx x h.1, near_side g s r by y h.0)
moved_opposite Third g s r bx by x y h = (near_side g s r bx x h.0, near_side g s r by y h.1)
moved_opposite Fourth g s r bx by x y h = (near_side g s r bx x h.1, far_side g s r by y h.0)

pub moved_before : (q : Quadrant) (g s r bx by x y : ℕ) → IsMovedPoint g s r (around (following q) bx by) (around q x y) →
    IsJoint g s r y bx × IsAcross g s r by x
moved_before First g s r bx by x y h = (same_side g s r bx y h.1, near_side g s r by x h.0)
moved_before Second g s r bx by x y h = (negative_side g s r bx y h.0, near_side g s r by x h.1)
moved_before Third g s r bx by x y h = (negative_side g s r bx y h.1, far_side g s r by x h.0)
moved_before Fourth g s r bx by x y h = (same_side g s r bx y h.0, far_side g s r by x h.1)

pub four_ways : (p q : Quadrant) → (q ≡ p) ⊎ ((q ≡ following p) ⊎ ((q ≡ following (following p)) ⊎ (p ≡ following q)))
four_ways First First = inl refl
four_ways First Second = inr (inl refl)
four_ways First Third = inr (inr (inl refl))
four_ways First Fourth = inr (inr (inr refl))
four_ways Second First = inr (inr (inr refl))
four_ways Second Second = inl refl
four_ways Second Third = inr (inl refl)
four_ways Second Fourth = inr (inr (inl refl))
four_ways Third First = inr (inr (inl refl))
four_ways Third Second = inr (inr (inr refl))
four_ways Third Third = inl refl
four_ways Third Fourth = inr (inl refl)
four_ways Fourth First = inr (inl refl)
four_ways Fourth Second = inr (inr (inl refl))
four_ways Fourth Third = inr (inr (inr refl))
four_ways Fourth Fourth = inl refl

-- the point is not on the opposite side of the centre
pub not_opposite : (g p r bx by x y : ℕ) → 500 ≤ g → 2 * g < r → 0 < bx → p * p ≤ bx * bx + by * by → IsAcross g (p + 1) r bx x → IsAcross g (p + 1) r by y → ⊥
not_opposite g p r bx by x y step far some round hx hy =
    let sum : r * (bx + by) ≤ (p + 1) * g = omega (arith, hx, hy) in
    let long : p ≤ bx + by = elim (cases_lt (bx + by) p) [
      | inr fine ↦ fine
      | inl less ↦ (let a = mul-le-mul_left p (let h : bx + by + 1 ≤ p = omega (arith, less) in h) in
          let b = mul-le-mul_left (bx + by) (let h : bx + by ≤ p = omega (arith, less) in h) in absurd (omega (arith, a, b, round, less)))
    ] in
    let a = mul-le-mul_left (bx + by) (let h : 2 * g + 1 ≤ r = omega (arith, far) in h) in
    let b = mul-le-mul_left g long in
    let c = mul-le-mul_left g (let h : 1 ≤ bx + by = omega (arith, some) in h) in
    omega (arith, sum, a, b, c, step, some)
