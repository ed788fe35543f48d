-- The number of leading digits of a text, the number that they write, and numbers up to a limit.
use Rattle.std.proofs.Common.{◌≡◌, ℕ, ◌+◌, ◌*◌, ◌<◌, ◌≤◌, min, refl, arith}
use Rattle.std.proofs.lemmas.List.Folds.{length-prefix_len}
use Rattle.std.proofs.lemmas.List.Sums.{fold_more}
use Rattle.std.proofs.lemmas.Nat.{mul-le}

pub ruleset counted = length-prefix_len

pub ruleset valued = fold_more

below_product : (a p m : ℕ) → 1 ≤ p → a * p < m → a < m
below_product a p m h n = let q : a * 1 ≤ a * p = mul-le a 1 a p (omega arith) h in omega (arith, q)

pub limited_same : (a p b q : ℕ) → 1 ≤ p → 1 ≤ q → a * p + b * q < 4294967296 → min a 4294967296 * p + min b 4294967296 * q ≡ a * p + b * q
limited_same a p b q hp hq h =
    let la : a < 4294967296 = below_product a p 4294967296 hp (omega arith) in
    let lb : b < 4294967296 = below_product b q 4294967296 hq (omega arith) in
    let ea : min a 4294967296 ≡ a = omega arith in
    let eb : min b 4294967296 ≡ b = omega arith in
    rw (ea, eb) refl

at_limit : (a p : ℕ) → 1 ≤ p → 4294967296 ≤ a → 4294967296 ≤ min a 4294967296 * p
at_limit a p hp h =
    let e : min a 4294967296 ≡ 4294967296 = omega arith in
    let q : 4294967296 * 1 ≤ 4294967296 * p = mul-le 4294967296 1 4294967296 p (omega arith) hp in
    rw e (omega (arith, q))

pub limited_large : (a p b q : ℕ) → 1 ≤ p → 1 ≤ q → 4294967296 ≤ a * p + b * q → 4294967296 ≤ min a 4294967296 * p + min b 4294967296 * q
limited_large a p b q hp hq h = grind (arith, at_limit)
