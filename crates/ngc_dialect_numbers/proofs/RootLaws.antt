-- The root that is returned is the nearest.
use Rattle.std.proofs.Common.{◌≡◌, ℕ, ◌+◌, ◌-◌, ◌*◌, ◌≤◌, ◌<◌, arith}
use Rattle.std.proofs.lemmas.Nat.{mul-le}
use Rattle.ngc_dialect_numbers.specs.SquareRoots.{IsNearestRoot}

pub root_after : (x r : ℕ) → r < x - r * r → x < (r + 1) * (r + 1) → IsNearestRoot x (r + 1)
root_after x r more greatest =
    let e : 2 * (r + 1) - 1 ≡ 2 * r + 1 = omega arith in
    record { low = rw e (omega arith); high = omega arith }

pub root_same : (x r : ℕ) → x - r * r ≤ r → r * r ≤ x → IsNearestRoot x r
root_same x r less square =
    let product : (2 * r - 1) * (2 * r - 1) ≤ (2 * r) * (2 * r) = mul-le (2 * r - 1) (2 * r - 1) (2 * r) (2 * r) (omega arith) (omega arith) in
    record { low = omega arith; high = omega arith }
