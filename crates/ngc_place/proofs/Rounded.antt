-- Rounding is monotonic.
use Rattle.std.proofs.Common.{◌≡◌, ℕ, suc, ◌+◌, ◌-◌, ◌*◌, ◌/◌, ◌<◌, ◌≤◌, ℤ, pos, negsuc, neg_ℤ, ◌+ℤ◌, ◌-ℤ◌, ◌*ℤ◌, ◌≤ℤ◌, arith, subst, ap}
use borrow.Author.Differences.{up, down}
use Rattle.std.specs.Int.{int_div_euclid}
use Rattle.std.proofs.lemmas.Int.{ints}
use Rattle.std.proofs.lemmas.Nat.{le-div}
use Rattle.std.proofs.Math.Nat.{div-mul-le_self, mul-le-mul_left}
use Rattle.ngc_fixed_length.specs.Rounding.{nearest, nearest_size}
use Rattle.ngc_fixed_length.specs.Length.{IsStep}
use Rattle.ngc_fixed_length.specs.Boxes.{grid_above}

div_up : (m n k : ℕ) → 0 < k → m ≤ n → m / k ≤ n / k
div_up m n k h i = le-div (m / k) n k h (omega (arith, i, div-mul-le_self m k))

size_up : (x y s : ℕ) → 0 < s → x ≤ y → nearest_size x s ≤ nearest_size y s
size_up x y s h i = div_up (2 * x + s) (2 * y + s) (2 * s) (omega (arith, h)) (omega (arith, i))

pub nearest_up : (x y : ℤ) (s : ℕ) → 0 < s → x ≤ℤ y → nearest x (pos s) ≤ℤ nearest y (pos s)
nearest_up (pos x) (pos y) s h i = let j = size_up x y s h (omega (arith, ints, i)) in omega (arith, ints, j)
nearest_up (pos x) (negsuc y) s h i = absurd (omega (arith, ints, i))
nearest_up (negsuc x) (pos y) s h i = omega (arith, ints)
nearest_up (negsuc x) (negsuc y) s h i = let j = size_up (suc y) (suc x) s h (omega (arith, ints, i)) in omega (arith, ints, j)

pub below_up : (x y : ℤ) (s : ℕ) → 0 < s → x ≤ℤ y → int_div_euclid x (pos s) ≤ℤ int_div_euclid y (pos s)
below_up (pos x) (pos y) s h i = let j = div_up x y s h (omega (arith, ints, i)) in omega (arith, ints, j)
below_up (pos x) (negsuc y) s h i = absurd (omega (arith, ints, i))
below_up (negsuc x) (pos y) s h i = omega (arith, ints)
below_up (negsuc x) (negsuc y) s h i = let j = div_up y x s h (omega (arith, ints, i)) in omega (arith, ints, j)

pub above_up : (x y : ℤ) (s : ℕ) → 0 < s → x ≤ℤ y → grid_above (pos s) x ≤ℤ grid_above (pos s) y
above_up x y s h i = let j = below_up (neg_ℤ y) (neg_ℤ x) s h (omega (arith, ints, i)) in omega (arith, ints, j)

-- products with a factor that isn't negative
pub scale_up : (s : ℕ) (a b : ℤ) → a ≤ℤ b → (a *ℤ pos s) ≤ℤ (b *ℤ pos s)
scale_up s (pos a) (pos b) h = let i : a ≤ b = omega (arith, ints, h) in omega (arith, ints, mul-le-mul_left s i)
scale_up s (pos a) (negsuc b) h = absurd (omega (arith, ints, h))
scale_up s (negsuc a) (pos b) h = omega (arith, ints)
scale_up s (negsuc a) (negsuc b) h = let i : suc b ≤ suc a = omega (arith, ints, h) in omega (arith, ints, mul-le-mul_left s i)

pub scale_by : (step a b : ℤ) → IsStep step → a ≤ℤ b → (a *ℤ step) ≤ℤ (b *ℤ step)
scale_by (pos s) a b p h = scale_up s a b h
scale_by (negsuc s) a b p h = absurd (omega (arith, ints, p.least))

pub sum_up : (x a b : ℤ) → a ≤ℤ b → (x +ℤ a) ≤ℤ (x +ℤ b)
sum_up x a b h = omega (arith, ints, h)

difference : (a b : ℤ) → up (a -ℤ b) + (down a + up b) ≡ up a + down b + down (a -ℤ b)
difference a b = omega (arith, ints)

-- the point after t of s + t parts of a line from b to e
part_up : (b e c d : ℤ) (s t : ℕ) → b ≤ℤ c → e ≤ℤ d →
    ((b *ℤ pos (s + t)) +ℤ ((e -ℤ b) *ℤ pos t)) ≤ℤ ((c *ℤ pos (s + t)) +ℤ ((d -ℤ c) *ℤ pos t))
part_up b e c d s t h i =
    let j = scale_up s b c h in
    let k = scale_up t e d i in
    let first = ap (λ n. n * t) (difference e b) in
    let second = ap (λ n. n * t) (difference d c) in
    omega (arith, ints, j, k, first, second)

pub cut_up : (b e c d : ℤ) (t : ℕ) → t ≤ 65536 → b ≤ℤ c → e ≤ℤ d →
    ((b *ℤ pos 65536) +ℤ ((e -ℤ b) *ℤ pos t)) ≤ℤ ((c *ℤ pos 65536) +ℤ ((d -ℤ c) *ℤ pos t))
cut_up b e c d t less h i =
    let whole : 65536 - t + t ≡ 65536 = omega (arith, less) in
    subst (λ w. ((b *ℤ pos w) +ℤ ((e -ℤ b) *ℤ pos t)) ≤ℤ ((c *ℤ pos w) +ℤ ((d -ℤ c) *ℤ pos t))) whole (part_up b e c d (65536 - t) t h i)
