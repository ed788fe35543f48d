-- A straight part of a course along one axis: its points are between its two ends, a whole number
-- of steps apart.
use Rattle.std.proofs.Common.{◌≡◌, ℕ, zero, suc, ◌-◌, ◌*◌, ◌≤◌, ◌⊎◌, inl, inr, min, max, ℤ, pos, ◌+ℤ◌, ◌-ℤ◌, ◌*ℤ◌, ◌≤ℤ◌, unsigned_abs, arith, ap, ◌∙◌}
use Rattle.std.proofs.lemmas.Int.{ints, by_lt_z}
use Rattle.ngc_fixed_length.specs.Grid.{distance}
use Rattle.ngc_circle_walk.proofs.JointMoves.{no_farther_up, no_farther_down}
use Rattle.ngc_step_kernel.specs.Line.{toward}
use Rattle.ngc_step_kernel.specs.Spots.{straight_place}
use Rattle.ngc_step_kernel.proofs.LineLemmas.{scale-sum}

-- q is between p and r, and is p or at least g from it
abbrev pub IsOnWay : ℕ → ℤ → ℤ → ℤ → Type 0
IsOnWay g p q r = (((q ≡ p) ⊎ ((p +ℤ pos g) ≤ℤ q)) × (q ≤ℤ r)) ⊎ (((q ≡ p) ⊎ ((q +ℤ pos g) ≤ℤ p)) × (r ≤ℤ q))

pub scaled_by : (g q : ℕ) (x y : ℤ) → y ≡ x +ℤ pos q → y *ℤ pos g ≡ (x *ℤ pos g) +ℤ pos (q * g)
scaled_by g q x y e = ap (λ z. z *ℤ pos g) e ∙ scale-sum g x (pos q)

up_way : (g m n : ℕ) (x y z : ℤ) → y ≡ x +ℤ pos m → z ≡ y +ℤ pos n → IsOnWay g (x *ℤ pos g) (y *ℤ pos g) (z *ℤ pos g)
up_way g zero n x y z e f = let a = scaled_by g 0 x y e in let b = scaled_by g n y z f in inl (inl (omega (arith, ints, a)), omega (arith, ints, b))
up_way g (suc m) n x y z e f = let a = scaled_by g (suc m) x y e in let b = scaled_by g n y z f in inl (inr (omega (arith, ints, a)), omega (arith, ints, b))

down_way : (g m n : ℕ) (x y z : ℤ) → x ≡ y +ℤ pos m → y ≡ z +ℤ pos n → IsOnWay g (x *ℤ pos g) (y *ℤ pos g) (z *ℤ pos g)
down_way g zero n x y z e f = let a = scaled_by g 0 y x e in let b = scaled_by g n z y f in inr (inl (omega (arith, ints, a)), omega (arith, ints, b))
down_way g (suc m) n x y z e f = let a = scaled_by g (suc m) y x e in let b = scaled_by g n z y f in inr (inr (omega (arith, ints, a)), omega (arith, ints, b))

pub on_way : (g : ℕ) (a b : ℤ) (k : ℕ) → IsOnWay g (a *ℤ pos g) (straight_place a b k *ℤ pos g) (b *ℤ pos g)
on_way g a b k =
    let d = distance a b in
    let m = min k d in
    let le : m ≤ d = omega arith in
    by_lt_z a b
    (λ up. let e : toward a b m ≡ a +ℤ pos m = grind (arith, ints) in
    up_way g m (d - m) a (toward a b m) b e (omega (arith, ints, e, le, up)))
    (λ down. let e : toward a b m ≡ a -ℤ pos m = grind (arith, ints) in
    down_way g m (d - m) a (toward a b m) b (omega (arith, ints, e)) (omega (arith, ints, e, le, down)))

-- a point of the part is between its ends
pub place_between : (a b : ℤ) (k : ℕ) → ((a ≤ℤ straight_place a b k) × (straight_place a b k ≤ℤ b)) ⊎
    ((b ≤ℤ straight_place a b k) × (straight_place a b k ≤ℤ a))
place_between a b k =
    let d = distance a b in
    let m = min k d in
    let le : m ≤ d = omega arith in
    by_lt_z a b
    (λ up. let e : toward a b m ≡ a +ℤ pos m = grind (arith, ints) in inl (omega (arith, ints, e), omega (arith, ints, e, le, up)))
    (λ down. let e : toward a b m ≡ a -ℤ pos m = grind (arith, ints) in inr (omega (arith, ints, e, le, down), omega (arith, ints, e)))

-- ---- no point is farther from e than the first, if the last is nearest to e

way_no_farther : (g : ℕ) (p q r e : ℤ) → 2 * unsigned_abs (e -ℤ r) ≤ g → IsOnWay g p q r → distance e q ≤ distance e p
way_no_farther g p q r e near (inl w) = omega (arith, ints, no_farther_up g p q r e near w.0 w.1)
way_no_farther g p q r e near (inr w) = omega (arith, ints, no_farther_down g p q r e near w.0 w.1)

-- on the part that ends at the grid point nearest to e, no point is farther from e than the first
-- one
pub place_no_farther : (g : ℕ) (a b e : ℤ) (k : ℕ) → 2 * unsigned_abs (e -ℤ (b *ℤ pos g)) ≤ g →
    distance e (straight_place a b k *ℤ pos g) ≤ distance e (a *ℤ pos g)
place_no_farther g a b e k near = way_no_farther g (a *ℤ pos g) (straight_place a b k *ℤ pos g) (b *ℤ pos g) e near (on_way g a b k)

-- ---- and none is farther from s than both ends

way_within : (g : ℕ) (p q r s : ℤ) (d : ℕ) → distance s p ≤ d → distance s r ≤ d → IsOnWay g p q r → distance s q ≤ d
way_within g p q r s d hp hr (inl (inl e, w)) = omega (arith, ints, hp, e)
way_within g p q r s d hp hr (inl (inr e, w)) = omega (arith, ints, hp, hr, e, w)
way_within g p q r s d hp hr (inr (inl e, w)) = omega (arith, ints, hp, e)
way_within g p q r s d hp hr (inr (inr e, w)) = omega (arith, ints, hp, hr, e, w)

-- if both ends are at most d from s, all points are
pub place_within : (g : ℕ) (a b s : ℤ) (k d : ℕ) → distance s (a *ℤ pos g) ≤ d → distance s (b *ℤ pos g) ≤ d → distance s (straight_place a b k *ℤ pos g) ≤ d
place_within g a b s k d ha hb = way_within g (a *ℤ pos g) (straight_place a b k *ℤ pos g) (b *ℤ pos g) s d ha hb (on_way g a b k)

-- on the part that begins at the grid point nearest to s, no point is farther from s than half a
-- step, or than the last one
pub place_from_nearest : (g : ℕ) (a b s : ℤ) (k : ℕ) → 2 * unsigned_abs (s -ℤ (a *ℤ pos g)) ≤ g →
    2 * distance s (straight_place a b k *ℤ pos g) ≤ max g (2 * distance s (b *ℤ pos g))
place_from_nearest g a b s k near =
    let m = max (distance s (a *ℤ pos g)) (distance s (b *ℤ pos g)) in
    let h = place_within g a b s k m (omega arith) (omega arith) in
    omega (arith, ints, h, near)
