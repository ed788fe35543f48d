-- Small numbers are unchanged in 64 bits.
use Rattle.std.proofs.Common.{◌≡◌, ◌≤◌, ◌*◌, ◌^◌, ℕ, ℤ, pos, negsuc, zero, suc, ◌+ℤ◌, ◌-ℤ◌, neg_ℤ, unsigned_abs, to_z, of_z, SFits, Fits, ◌+◌, arith, refl}
use Rattle.std.specs.Int.{w64, w128}
use Rattle.std.proofs.lemmas.Int.{ints, to_z-of_z}
use Rattle.std.proofs.lemmas.Nat.{mul-le}
use borrow.Author.Differences.{neg_is}

pub kept : (z : ℤ) → unsigned_abs z ≤ 2000000000 → to_z w64 (of_z w64 z) ≡ z
kept z small = omega (arith, ints)

pub negated : (z : ℤ) → unsigned_abs z ≤ 2000000000 → to_z w64 (of_z w64 (pos 0 -ℤ to_z w64 (of_z w64 z))) ≡ neg_ℤ z
negated z small =
    let n = neg_is z in
    let same = kept z small in
    let fits : unsigned_abs (pos 0 -ℤ to_z w64 (of_z w64 z)) ≤ 2000000000 = omega (arith, ints, same) in
    let whole = kept (pos 0 -ℤ to_z w64 (of_z w64 z)) fits in
    omega (arith, ints, n.0, n.1, same, whole)

pub negated_fits : (z : ℤ) → unsigned_abs z ≤ 2000000000 → SFits w64 (pos 0 -ℤ to_z w64 (of_z w64 z))
negated_fits z small = rw (kept z small) (omega (arith, ints))

pub size_of_negative : (z : ℤ) → unsigned_abs (neg_ℤ z) ≡ unsigned_abs z
size_of_negative (pos zero) = refl
size_of_negative (pos (suc n)) = refl
size_of_negative (negsuc n) = refl

pub as_signed : (r : ℕ) → r ≤ 2000020000 → to_z w64 r ≡ pos r
as_signed r small = omega (arith, ints)

pub as_negative : (r : ℕ) → r ≤ 2000020000 → to_z w64 (of_z w64 (pos 0 -ℤ to_z w64 r)) ≡ neg_ℤ (pos r)
as_negative r small =
    let n = neg_is (pos r) in
    let same = as_signed r small in
    let fits : unsigned_abs (pos 0 -ℤ to_z w64 r) ≤ 2000020000 = omega (arith, ints, same) in
    omega (arith, ints, n.0, n.1, same, fits)

pub area_kept : (z : ℤ) → unsigned_abs z ≤ 4 * 10 ^ 23 → to_z w128 (of_z w128 z) ≡ z
area_kept z small = omega (arith, ints)

pub area_negated_fits : (z : ℤ) → unsigned_abs z ≤ 4 * 10 ^ 23 → SFits w128 (pos 0 -ℤ to_z w128 (of_z w128 z))
area_negated_fits z small =
    let n = neg_is z in
    omega (arith, ints, n.0, n.1, area_kept z small)

pub area_negated : (z : ℤ) → unsigned_abs z ≤ 4 * 10 ^ 23 → to_z w128 (of_z w128 (pos 0 -ℤ to_z w128 (of_z w128 z))) ≡ neg_ℤ z
area_negated z small =
    let n = neg_is z in
    let fits = to_z-of_z w128 _ (area_negated_fits z small) in
    omega (arith, ints, n.0, n.1, area_kept z small, fits)

pub moved_on : (p : ℤ) (r : ℕ) → unsigned_abs p ≤ 93000000000 → r ≤ 2000020000 → unsigned_abs (p +ℤ to_z w64 r) ≤ 100000000000
moved_on p r near small = omega (arith, ints)

pub moved_back : (p : ℤ) (r : ℕ) → unsigned_abs p ≤ 93000000000 → r ≤ 2000020000 → unsigned_abs (p +ℤ to_z w64 (of_z w64 (pos 0 -ℤ to_z w64 r))) ≤ 100000000000
moved_back p r near small =
    let n = neg_is (pos r) in
    rw (as_negative r small) (omega (arith, ints, n.0, n.1))

pub negative_fits : (r : ℕ) → r ≤ 2000020000 → SFits w64 (pos 0 -ℤ to_z w64 r)
negative_fits r small = omega (arith, ints)

pub radius_fits : (r : ℕ) → r ≤ 2000020000 → SFits w64 (pos r)
radius_fits r small = omega (arith, ints)

pub size_is : (z : ℤ) (n : ℕ) → n ≡ unsigned_abs (to_z w64 (of_z w64 z)) → unsigned_abs z ≤ 100000000000 → n ≡ unsigned_abs z
size_is z n is small = omega (arith, ints)

-- squares of lengths
pub square_fits : (n : ℕ) → n ≤ 100000000000 → Fits w128 (n * n)
square_fits n small =
    let p : n * n ≤ 100000000000 * 100000000000 = mul-le n n 100000000000 100000000000 small small in
    omega (arith, ints, p)

pub four_squares_fit : (n : ℕ) → n ≤ 100000000000 → Fits w128 (4 * (n * n))
four_squares_fit n small =
    let p : n * n ≤ 100000000000 * 100000000000 = mul-le n n 100000000000 100000000000 small small in
    omega (arith, ints, p)

pub reach_fits : (n t : ℕ) → n ≤ 100000000000 → t ≤ 5080 → Fits w128 (4 * (n + t) * (n + t))
reach_fits n t small within =
    let near : n + t ≤ 100000005080 = omega arith in
    let p : 4 * (n + t) * (n + t) ≤ 400000020320 * 100000005080 = mul-le (4 * (n + t)) (n + t) 400000020320 100000005080 (omega arith) near in
    omega (arith, ints, p)
