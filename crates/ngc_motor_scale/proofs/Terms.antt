-- The greatest common divisor of a ratio's numbers, and what is left of them.
use Rattle.std.proofs.Common.{◌≡◌, ℕ, zero, suc, ◌≤◌, ◌<◌, ◌*◌, subst, arith}
use Rattle.std.specs.Prelude.{◌/◌}
use Rattle.std.specs.Int.{IsGcd, ◌∣◌}
use Rattle.std.proofs.Math.Nat.{mul-div_cancel', mul-dvd-mul_left, dvd_of_mul-dvd-mul_left, one-dvd, eq-zero_of_zero-dvd, le_of_mul-le-mul_left}

-- what divides a number above 0 is above 0
pub some_divisor : (a b d : ℕ) → 0 < a → IsGcd a b d → 0 < d
some_divisor a b zero some h = let e : a ≡ 0 = eq-zero_of_zero-dvd h.0 in omega arith
some_divisor a b (suc d) some h = omega arith

-- no number but 1 divides both quotients
pub lowest : (a b d : ℕ) → 0 < d → IsGcd a b d → IsGcd (a / d) (b / d) 1
lowest a b d some h = (
  one-dvd (a / d),
  one-dvd (b / d),
  λ k p q.
      let first : d * k ∣ a = subst (λ n. d * k ∣ n) (mul-div_cancel' d h.0) (mul-dvd-mul_left k d p) in
      let second : d * k ∣ b = subst (λ n. d * k ∣ n) (mul-div_cancel' d h.1) (mul-dvd-mul_left k d q) in
      let same : d ≡ d * 1 = omega arith in
      let both : d * k ∣ d * 1 = subst (λ n. d * k ∣ n) same (h.2 (d * k) first second) in
      dvd_of_mul-dvd-mul_left k some both,
)

crossed : (p q d a b : ℕ) → d * p ≡ a → d * q ≡ b → q * a ≡ p * b
crossed p q d a b e f = rw (← e, ← f) (grind arith)

pub same_ratio : (a b d : ℕ) → IsGcd a b d → b / d * a ≡ a / d * b
same_ratio a b d h = crossed (a / d) (b / d) d a b (mul-div_cancel' d h.0) (mul-div_cancel' d h.1)

some_factor : (q d b : ℕ) → d * q ≡ b → 0 < b → 0 < q
some_factor zero d b e some = omega arith
some_factor (suc q) d b e some = omega arith

pub some_quotient : (a b d : ℕ) → IsGcd a b d → 0 < b → 0 < b / d
some_quotient a b d h some = some_factor (b / d) d b (mul-div_cancel' d h.1) some

least_factor : (p q d a b : ℕ) → 0 < d → d * p ≡ a → d * q ≡ b → 500 * b ≤ a → 500 * q ≤ p
least_factor p q d a b some e f least =
    let r : d * (500 * q) ≡ 500 * (d * q) = grind arith in
    let s : d * (500 * q) ≤ d * p = omega arith in
    le_of_mul-le-mul_left s some

pub least_quotient : (a b d : ℕ) → 0 < d → IsGcd a b d → 500 * b ≤ a → 500 * (b / d) ≤ a / d
least_quotient a b d some h least = least_factor (a / d) (b / d) d a b some (mul-div_cancel' d h.0) (mul-div_cancel' d h.1) least

greatest_factor : (p q d a b : ℕ) → 0 < d → d * p ≡ a → d * q ≡ b → a ≤ 50000 * b → p ≤ 50000 * q
greatest_factor p q d a b some e f most =
    let r : d * (50000 * q) ≡ 50000 * (d * q) = grind arith in
    let s : d * p ≤ d * (50000 * q) = omega arith in
    le_of_mul-le-mul_left s some

pub greatest_quotient : (a b d : ℕ) → 0 < d → IsGcd a b d → a ≤ 50000 * b → a / d ≤ 50000 * (b / d)
greatest_quotient a b d some h most = greatest_factor (a / d) (b / d) d a b some (mul-div_cancel' d h.0) (mul-div_cancel' d h.1) most
