-- A quotient above or below a bound.
use Rattle.std.proofs.Common.{◌≡◌, ℕ, ◌≤◌, ◌<◌, ◌-◌, ◌*◌, arith}
use Rattle.std.specs.Prelude.{◌/◌}
use Rattle.std.proofs.Math.Nat.{div-lt_iff_lt-mul, le-div_iff_mul-le}

pub below : (n k : ℕ) → 0 < k → n / k < 500 → n < 500 * k
below n k some h = (div-lt_iff_lt-mul some).0 h

pub not_below : (n k : ℕ) → 0 < k → 500 ≤ n / k → 500 * k ≤ n
not_below n k some h = (le-div_iff_mul-le some).0 h

pub above : (n k : ℕ) → 0 < k → 0 < n → 50000 ≤ (n - 1) / k → 50000 * k < n
above n k some above_zero h = let p : 50000 * k ≤ n - 1 = (le-div_iff_mul-le some).0 h in omega arith

pub not_above : (n k : ℕ) → 0 < k → (n - 1) / k < 50000 → n ≤ 50000 * k
not_above n k some h = let p : n - 1 < 50000 * k = (div-lt_iff_lt-mul some).0 h in omega arith
