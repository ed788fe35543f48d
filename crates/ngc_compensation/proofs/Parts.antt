-- A part of a vector of length n is at most n.
use Rattle.std.proofs.Common.{◌≡◌, ℕ, ◌+◌, ◌*◌, ◌/◌, ◌^◌, ◌≤◌, arith}
use Rattle.std.proofs.lemmas.Nat.{mul-le}
use Rattle.std.proofs.Math.Nat.{div-le_of_le-mul}
use Rattle.ngc_fixed_length.proofs.RootLaws.{at_most}

-- the square of 2 n x is at most s times that of 2 n
square_within : (n x s t : ℕ) → t ≡ 2 * n * x → x * x ≤ s → t * t ≤ s * ((2 * n) * (2 * n))
square_within n x s t e h =
    let p = mul-le (x * x) ((2 * n) * (2 * n)) s ((2 * n) * (2 * n)) h (omega arith) in
    rw e (omega arith)

pub quotient_within : (n x s t : ℕ) → t ≡ 2 * n * x → x * x ≤ s → t * t / s ≤ (2 * n) * (2 * n)
quotient_within n x s t e h = div-le_of_le-mul s (square_within n x s t e h)

pub quotient_small : (n x s t : ℕ) → n ≤ 500000000 → t ≡ 2 * n * x → x * x ≤ s → t * t / s ≤ 10 ^ 38
quotient_small n x s t small e h =
    let p = quotient_within n x s t e h in
    let q : (2 * n) * (2 * n) ≤ 1000000000 * 1000000000 = mul-le (2 * n) (2 * n) 1000000000 1000000000 (omega arith) (omega arith) in
    omega arith

pub part_within : (n r q : ℕ) → r * r ≤ q → q ≤ (2 * n) * (2 * n) → (r + 1) / 2 ≤ n
part_within n r q low high =
    let b = at_most q r (2 * n) low (omega arith) in
    omega arith
