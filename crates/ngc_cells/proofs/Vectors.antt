-- Products of numbers that aren't negative, and the sum of two vectors.
use Rattle.std.proofs.Common.{◌≡◌, ℕ, zero, suc, ◌+◌, ◌*◌, ◌<◌, ◌≤◌, ℤ, pos, negsuc, ◌+ℤ◌, ◌-ℤ◌, ◌*ℤ◌, neg_ℤ, ◌≤ℤ◌, ◌<ℤ◌, unsigned_abs, inl, inr, refl, arith, [], ◌∷◌}
use Rattle.std.proofs.lemmas.Bool.{cases_lt}
use Rattle.std.proofs.lemmas.Nat.{mul-le}
use Rattle.std.proofs.lemmas.Int.{ints, by_lt_z}
use Rattle.ngc_cells.proofs.Ring.{Term, V, S, P, M, ring}
use Rattle.ngc_cells.specs.Stretches.{square}

abbrev pub Q : Term → Term
Q a = P a a

abbrev pub L : Term → Term → Term
L a b = S a (M b)

pub from_squares : (a b : ℕ) → a * a ≤ b * b → a ≤ b
from_squares a b h =
    elim (cases_lt b a) [
      | inl more ↦ (let p : (b + 1) * (b + 1) ≤ a * a = mul-le (b + 1) (b + 1) a a (omega arith) (omega arith) in absurd (omega arith))
      | inr less ↦ less
    ]

pub natural : (z : ℤ) → pos 0 ≤ℤ z → z ≡ pos (unsigned_abs z)
natural (pos n) h = refl
natural (negsuc n) h = absurd (omega (arith, ints, h))

pub product_least : (x y : ℤ) → pos 0 ≤ℤ x → pos 0 ≤ℤ y → pos 0 ≤ℤ (x *ℤ y)
product_least (pos m) (pos n) h i = omega (arith, ints)
product_least (negsuc m) y h i = absurd (omega (arith, ints, h))
product_least (pos m) (negsuc n) h i = absurd (omega (arith, ints, i))

some_product : (m n : ℕ) → 0 < m → 0 < n → 0 < m * n
some_product (suc m) (suc n) h i = omega arith
some_product zero n h i = absurd (omega arith)
some_product (suc m) zero h i = absurd (omega arith)

pub product_above : (x y : ℤ) → pos 0 <ℤ x → pos 0 <ℤ y → pos 0 <ℤ (x *ℤ y)
product_above (pos m) (pos n) h i = let p = some_product m n (omega (arith, ints, h)) (omega (arith, ints, i)) in omega (arith, ints)
product_above (negsuc m) y h i = absurd (omega (arith, ints, h))
product_above (pos m) (negsuc n) h i = absurd (omega (arith, ints, i))

pub square_least : (z : ℤ) → pos 0 ≤ℤ square z
square_least (pos n) = omega (arith, ints)
square_least (negsuc n) = omega (arith, ints)

times_less : (c a b : ℤ) → c *ℤ (b -ℤ a) ≡ (c *ℤ b) -ℤ (c *ℤ a)
times_less c a b = ring (c ∷ a ∷ b ∷ []) (P (V 0) (L (V 2) (V 1))) (L (P (V 0) (V 2)) (P (V 0) (V 1))) refl

-- a factor that isn't negative keeps the order; one above 0 can be left out
pub times_most : (c a b : ℤ) → pos 0 ≤ℤ c → a ≤ℤ b → (c *ℤ a) ≤ℤ (c *ℤ b)
times_most c a b h i =
    let p = product_least c (b -ℤ a) h (omega (arith, ints, i)) in
    omega (arith, ints, p, times_less c a b)

pub times_out : (c a b : ℤ) → pos 0 <ℤ c → (c *ℤ a) ≤ℤ (c *ℤ b) → a ≤ℤ b
times_out c a b h i =
    by_lt_z b a
    (λ more. let p = product_above c (a -ℤ b) h (omega (arith, ints, more)) in absurd (omega (arith, ints, i, p, times_less c b a)))
    (λ less. less)

pub same_signs : (x y : ℤ) → x ≤ℤ pos 0 → y ≤ℤ pos 0 → pos 0 ≤ℤ (x *ℤ y)
same_signs x y h i =
    let p = product_least (neg_ℤ x) (neg_ℤ y) (omega (arith, ints, h)) (omega (arith, ints, i)) in
    let e : neg_ℤ x *ℤ neg_ℤ y ≡ x *ℤ y = ring (x ∷ y ∷ []) (P (M (V 0)) (M (V 1))) (P (V 0) (V 1)) refl in
    rw e at p

-- ---- the sum of two vectors

sum_square : (a b c d : ℤ) → square (a +ℤ c) +ℤ square (b +ℤ d) ≡ ((square a +ℤ square b) +ℤ (square c +ℤ square d)) +ℤ (((a *ℤ c) +ℤ (b *ℤ d)) +ℤ ((a *ℤ c) +ℤ (b *ℤ d)))
sum_square a b c d = ring (a ∷ b ∷ c ∷ d ∷ [])
    (S (Q (S (V 0) (V 2))) (Q (S (V 1) (V 3))))
    (S (S (S (Q (V 0)) (Q (V 1))) (S (Q (V 2)) (Q (V 3)))) (S (S (P (V 0) (V 2)) (P (V 1) (V 3))) (S (P (V 0) (V 2)) (P (V 1) (V 3))))) refl

two_products : (a b c d : ℤ) → (square a +ℤ square b) *ℤ (square c +ℤ square d) ≡ square ((a *ℤ c) +ℤ (b *ℤ d)) +ℤ square ((a *ℤ d) -ℤ (b *ℤ c))
two_products a b c d = ring (a ∷ b ∷ c ∷ d ∷ [])
    (P (S (Q (V 0)) (Q (V 1))) (S (Q (V 2)) (Q (V 3))))
    (S (Q (S (P (V 0) (V 2)) (P (V 1) (V 3)))) (Q (L (P (V 0) (V 3)) (P (V 1) (V 2))))) refl

-- a number whose square is at most that of m is at most m
pub below_root : (z : ℤ) (m : ℕ) → square z ≤ℤ pos (m * m) → z ≤ℤ pos m
below_root (pos n) m h = let p = from_squares n m (omega (arith, ints, h)) in omega (arith, ints)
below_root (negsuc n) m h = omega (arith, ints)

products_most : (u v : ℤ) (m n : ℕ) → pos 0 ≤ℤ u → pos 0 ≤ℤ v → u ≤ℤ pos m → v ≤ℤ pos n → (u *ℤ v) ≤ℤ pos (m * n)
products_most (pos u) (pos v) m n h i j k = let p = mul-le u v m n (omega (arith, ints, j)) (omega (arith, ints, k)) in omega (arith, ints)
products_most (negsuc u) v m n h i j k = absurd (omega (arith, ints, h))
products_most (pos u) (negsuc v) m n h i j k = absurd (omega (arith, ints, i))

-- the sum of two vectors is at most as long as both together
pub sum_most : (a b c d : ℤ) (m n : ℕ) → (square a +ℤ square b) ≤ℤ pos (m * m) → (square c +ℤ square d) ≤ℤ pos (n * n) →
    (square (a +ℤ c) +ℤ square (b +ℤ d)) ≤ℤ pos ((m + n) * (m + n))
sum_most a b c d m n h i =
    let sa = square_least a in let sb = square_least b in let sc = square_least c in let sd = square_least d in
    let uv = products_most (square a +ℤ square b) (square c +ℤ square d) (m * m) (n * n) (omega (arith, ints, sa, sb)) (omega (arith, ints, sc, sd)) h i in
    let e = two_products a b c d in
    let x = square_least ((a *ℤ d) -ℤ (b *ℤ c)) in
    let r : (m * m) * (n * n) ≡ (m * n) * (m * n) = omega arith in
    let s : square ((a *ℤ c) +ℤ (b *ℤ d)) ≤ℤ pos ((m * n) * (m * n)) = rw (← r) (omega (arith, ints, uv, e, x)) in
    let t = below_root ((a *ℤ c) +ℤ (b *ℤ d)) (m * n) s in
    let f = sum_square a b c d in
    let g : (m + n) * (m + n) ≡ (m * m + n * n) + (m * n + m * n) = omega arith in
    rw (f, g) (omega (arith, ints, h, i, t))
