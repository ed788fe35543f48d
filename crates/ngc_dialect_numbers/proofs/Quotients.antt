-- A quotient is at most m if the dividend is at most m times the divisor.
use Rattle.std.proofs.Common.{ℕ, ◌+◌, ◌*◌, ◌/◌, ◌≤◌, ◌<◌, arith}
use Rattle.std.proofs.lemmas.Nat.{div_below, mul-le}

pub quotient_at_most : (x y m : ℕ) → 0 < y → x ≤ m * y → x / y ≤ m
quotient_at_most x y m some small = let below : x / y < m + 1 = div_below x y (m + 1) some (omega arith) in omega arith

pub product_positive : (a b : ℕ) → 0 < a → 0 < b → 0 < a * b
product_positive a b p q = let least : 1 * 1 ≤ a * b = mul-le 1 1 a b (omega arith) (omega arith) in omega arith
