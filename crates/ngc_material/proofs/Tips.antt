-- Products that fit, and the heights of tips.
use Rattle.std.proofs.Common.{ℕ, ◌*◌, ◌≤◌, ℤ, pos, ◌*ℤ◌, FitsSigned, unsigned_abs, arith, lit<}
use Rattle.std.specs.Int.{w64}
use Rattle.std.proofs.lemmas.Int.{fits_signed_mul, unsigned_abs-mul}
use Rattle.std.proofs.lemmas.Nat.{mul-le}

pub times_small : (n : ℕ) (b : ℤ) → n ≤ 1000 → unsigned_abs b ≤ 200000000000 → unsigned_abs (pos n *ℤ b) ≤ 200000000000000
times_small n b h i =
    let p = mul-le n (unsigned_abs b) 1000 200000000000 h i in
    let e = unsigned_abs-mul (pos n) b in
    rw e (omega (arith, p))

pub times_fits : (n : ℕ) (b : ℤ) → n ≤ 1000 → unsigned_abs b ≤ 200000000000 → FitsSigned w64 (pos n *ℤ b)
times_fits n b h i = fits_signed_mul w64 (pos n) b 1000 200000000000 h i (lit< tt)

pub kappa_small : (half k : ℕ) → half ≤ 2000000000 → ((r : ℕ) → 2 * (half * half) ≤ r * r → k ≤ r) → k ≤ 4000000000
kappa_small half k h least = let p = mul-le half half 2000000000 2000000000 h h in least 4000000000 (omega (arith, p))
