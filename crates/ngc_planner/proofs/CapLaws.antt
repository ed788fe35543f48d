-- Rounding a cap down.
use Rattle.std.proofs.Common.{ℕ, ◌*◌, ◌/◌, ◌≤◌, max, arith}
use Rattle.std.proofs.Math.Nat.{div-mul-le_self}
use Rattle.std.proofs.lemmas.Nat.{mul-le}

-- a rate up to a quotient of at least 1, times the divisor
pub below_quotient : (x d v : ℕ) → 1 ≤ x / d → v ≤ max 1 (x / d) → v * d ≤ x
below_quotient x d v some low =
    let less : v ≤ x / d = omega arith in
    let p : v * d ≤ x / d * d = mul-le v d (x / d) d less (omega arith) in
    omega (arith, p, div-mul-le_self x d)
