-- Grid points next to a number of nanometres.
use Rattle.std.proofs.Common.{◌≡◌, ℕ, zero, suc, ◌+◌, ◌*◌, ◌/◌, ◌≤◌, ℤ, pos, negsuc, ◌-ℤ◌, ◌*ℤ◌, neg_ℤ, ◌≤ℤ◌, unsigned_abs, arith, refl, sym, to_z, of_z}
use Rattle.std.proofs.Common.{FitsSigned}
use Rattle.std.specs.Int.{int_div_euclid, w32, w64}
use Rattle.std.proofs.lemmas.Int.{ints}
use Rattle.std.proofs.lemmas.Nat.{mul-le, div-add-mod', mod_below}
use borrow.Author.Differences.{neg_is}
use Rattle.ngc_fixed_length.specs.Length.{IsStep}
use Rattle.ngc_arc_geometry.proofs.Machine.{size_of_negative}

-- a quotient of a natural number by a step
size_of_quotient : (a n : ℕ) → 500 ≤ n → a ≤ 110000000000 → a / n ≤ 220000000
size_of_quotient a n least bound =
    let whole = div-add-mod' a n in
    let p : a / n * 500 ≤ a / n * n = mul-le (a / n) 500 (a / n) n (omega arith) least in
    omega arith

pub quotient_bound : (z s : ℤ) → IsStep s → unsigned_abs z ≤ 110000000000 → unsigned_abs (int_div_euclid z s) ≤ 220000001
quotient_bound (pos a) (pos n) step bound = let q = size_of_quotient a n (omega (arith, ints, step.least)) bound in omega arith
quotient_bound (negsuc a) (pos n) step bound = let q = size_of_quotient a n (omega (arith, ints, step.least)) (omega arith) in omega arith
quotient_bound z (negsuc n) step bound = absurd (omega (arith, ints, step.least))

-- the remainder is at most a step
pub quotient_near : (z s : ℤ) → IsStep s → (z -ℤ (int_div_euclid z s *ℤ s)) ≤ℤ s
quotient_near (pos a) (pos n) step =
    let whole = div-add-mod' a n in
    let rest = mod_below a n (omega (arith, ints, step.least)) in
    omega (arith, ints)
quotient_near (negsuc a) (pos n) step =
    let whole = div-add-mod' a n in
    let rest = mod_below a n (omega (arith, ints, step.least)) in
    let product : suc (a / n) * n ≡ a / n * n + n = omega arith in
    omega (arith, ints)
quotient_near z (negsuc n) step = absurd (omega (arith, ints, step.least))

-- the negative of a coordinate fits in 64 bits
pub turned : (z : ℤ) → unsigned_abs z ≤ 110000000000 → to_z w64 (of_z w64 (pos 0 -ℤ to_z w64 (of_z w64 z))) ≡ neg_ℤ z
turned z small =
    let n = neg_is z in
    let wide : to_z w64 (of_z w64 z) ≡ z = omega (arith, ints) in
    let negative : pos 0 -ℤ to_z w64 (of_z w64 z) ≡ neg_ℤ z = omega (arith, ints, wide, n.0, n.1) in
    let size : unsigned_abs (neg_ℤ z) ≤ 110000000000 = rw (size_of_negative z) small in
    rw negative (omega (arith, ints, size))

-- a quotient, and its negative, fit in 32 bits
pub kept : (q : ℤ) → unsigned_abs q ≤ 220000001 → to_z w32 (of_z w32 (to_z w64 (of_z w64 q))) ≡ q
kept q small = let wide : to_z w64 (of_z w64 q) ≡ q = omega (arith, ints) in rw wide (omega (arith, ints))

pub negated : (q : ℤ) → unsigned_abs q ≤ 220000001 → to_z w32 (of_z w32 (to_z w64 (of_z w64 (pos 0 -ℤ to_z w64 (of_z w64 q))))) ≡ neg_ℤ q
negated q small =
    let n = neg_is q in
    let wide : to_z w64 (of_z w64 q) ≡ q = omega (arith, ints) in
    let turned : pos 0 -ℤ to_z w64 (of_z w64 q) ≡ neg_ℤ q = omega (arith, ints, wide, n.0, n.1) in
    let size : unsigned_abs (neg_ℤ q) ≤ 220000001 = omega (arith, ints, n.0, n.1) in
    rw turned (kept (neg_ℤ q) size)

pub negative_fits : (q : ℤ) → unsigned_abs q ≤ 220000001 → FitsSigned w32 (to_z w64 (of_z w64 (pos 0 -ℤ to_z w64 (of_z w64 q))))
negative_fits q small = let wide : to_z w64 (of_z w64 q) ≡ q = omega (arith, ints) in rw wide (omega (arith, ints))

twice : (n : ℕ) → neg_ℤ (neg_ℤ (pos n)) ≡ pos n
twice zero = refl
twice (suc n) = refl

negative_product : (q : ℤ) (n : ℕ) → (neg_ℤ q *ℤ pos n) ≡ neg_ℤ (q *ℤ pos n)
negative_product (pos zero) n = let e : 0 * n ≡ 0 = omega arith in rw e
negative_product (pos (suc q)) n = refl
negative_product (negsuc q) n = sym (twice (suc q * n))

-- the grid point above is the negative of the one below the negative
pub above_near : (z s : ℤ) → IsStep s → ((neg_ℤ (int_div_euclid (neg_ℤ z) s) *ℤ s) -ℤ z) ≤ℤ s
above_near z (pos n) step =
    let near = quotient_near (neg_ℤ z) (pos n) step in
    let q = int_div_euclid (neg_ℤ z) (pos n) in
    let product = negative_product q n in
    let a = neg_is z in
    let b = neg_is (q *ℤ pos n) in
    omega (arith, ints, near, product, a.0, a.1, b.0, b.1)
above_near z (negsuc n) step = absurd (omega (arith, ints, step.least))
