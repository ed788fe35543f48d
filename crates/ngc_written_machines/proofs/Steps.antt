-- Steps in whole nanometres, rounded down.
use Rattle.std.proofs.Common.{ℕ, ◌≤◌, ◌<◌, ◌*◌, arith}
use Rattle.std.specs.Prelude.{◌/◌}
use Rattle.std.proofs.Math.Nat.{div-lt_iff_lt-mul, le-div_iff_mul-le}

pub least : (n s : ℕ) → 0 < s → 500 * s ≤ n → 500 ≤ n / s
least n s some h = (le-div_iff_mul-le some).1 h

pub most : (n s : ℕ) → 0 < s → n ≤ 50000 * s → n / s ≤ 50000
most n s some h = let l : n / s < 50001 = (div-lt_iff_lt-mul some).1 (omega (arith, some, h)) in omega (arith, l)
