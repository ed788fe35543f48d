-- A direction's coordinates are at most its length, and scaled ones at most the radius.
use Rattle.std.proofs.Common.{◌≡◌, ℕ, suc, ◌+◌, ◌*◌, ◌/◌, ◌<◌, ◌≤◌, ℤ, pos, negsuc, ◌*ℤ◌, neg_ℤ, unsigned_abs, arith}
use Rattle.std.proofs.Math.Nat.{div-lt_iff_lt-mul}
use Rattle.std.proofs.lemmas.Int.{ints, unsigned_abs-mul}
use Rattle.std.proofs.lemmas.Nat.{mul-le}
use Rattle.ngc_fixed_length.specs.Rounding.{nearest, nearest_size}

above : (s : ℕ) → 0 < s → 0 < 2 * s
above s some = omega (arith, some)

size_bound : (x r s : ℕ) → 0 < s → x ≤ s * r → nearest_size x s ≤ r
size_bound x r s some small =
    let twice : 2 * x + s < (r + 1) * (2 * s) = omega (arith, some, small) in
    let below : (2 * x + s) / (2 * s) < r + 1 = (div-lt_iff_lt-mul (above s some)).1 twice in
    omega (arith, below)

size_of_negative : (m : ℕ) → unsigned_abs (neg_ℤ (pos m)) ≡ m
size_of_negative m = omega (arith, ints)

nearest_bound : (x : ℤ) (r s : ℕ) → 0 < s → unsigned_abs x ≤ s * r → unsigned_abs (nearest x (pos s)) ≤ r
nearest_bound (pos x) r s some small = size_bound x r s some small
nearest_bound (negsuc x) r s some small = rw (size_of_negative (nearest_size (suc x) s)) (size_bound (suc x) r s some small)

pub scaled_bound : (d : ℤ) (r s : ℕ) → 0 < s → unsigned_abs d ≤ s → unsigned_abs (nearest (d *ℤ pos r) (pos s)) ≤ r
scaled_bound d r s some within =
    let product : unsigned_abs (d *ℤ pos r) ≤ s * r = rw (unsigned_abs-mul d (pos r)) (mul-le (unsigned_abs d) r s r within (omega arith)) in
    nearest_bound (d *ℤ pos r) r s some product
