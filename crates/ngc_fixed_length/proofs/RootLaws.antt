-- The root by digits is the greatest number whose square is at most x, and the only one.
use Rattle.std.proofs.Common.{◌≡◌, ℕ, zero, suc, ◌+◌, ◌*◌, ◌/◌, ◌^◌, ◌≤◌, ◌<◌, Bool, true, false, cond, arith, nat_le, ◌==◌, refl, inl, inr}
use Rattle.std.proofs.lemmas.Bool.Decides.{nat_tests}
use Rattle.std.proofs.lemmas.Bool.{cases_lt}
use Rattle.std.proofs.lemmas.Nat.{mul-le}
use Rattle.ngc_fixed_length.specs.Roots.{IsRootFloor, IsRootCeil, next_root, root_of_digits, whole_root, whole_root_above}

-- the same, for each result of the test
chosen : (b : Bool) (x q r : ℕ) → b ≡ nat_le ((2 * r + 1) * (2 * r + 1)) x → 4 * q ≤ x → x < 4 * q + 4 → r * r ≤ q → q < (r + 1) * (r + 1) →
    IsRootFloor x (cond b (2 * r + 1) (2 * r))
chosen true x q r went low high below above =
    let fits : (2 * r + 1) * (2 * r + 1) ≤ x = grind (arith, nat_tests) in
    record { square = fits; greatest = omega arith }
chosen false x q r went low high below above =
    let misses : x < (2 * r + 1) * (2 * r + 1) = grind (arith, nat_tests) in
    record { square = omega arith; greatest = misses }

next_root-greatest : (x q r : ℕ) → 4 * q ≤ x → x < 4 * q + 4 → r * r ≤ q → q < (r + 1) * (r + 1) → IsRootFloor x (next_root x r)
next_root-greatest x q r low high below above = chosen (nat_le ((2 * r + 1) * (2 * r + 1)) x) x q r refl low high below above

pub root_of_digits-greatest : (n x : ℕ) → x < 4 ^ n → IsRootFloor x (root_of_digits n x)
unfolding root_of_digits
root_of_digits-greatest zero x small = record { square = omega arith; greatest = omega arith }
root_of_digits-greatest (suc n) x small =
    let smaller : x / 4 < 4 ^ n = omega arith in
    let root = root_of_digits-greatest n (x / 4) smaller in
    next_root-greatest x (x / 4) (root_of_digits n (x / 4)) (omega arith) (omega arith) root.square root.greatest

pub whole_root-greatest : (x : ℕ) → x < 4 ^ 64 → IsRootFloor x (whole_root x)
unfolding whole_root
whole_root-greatest x small = root_of_digits-greatest 64 x small

-- there is only one greatest number
pub at_most : (x r s : ℕ) → r * r ≤ x → x < (s + 1) * (s + 1) → r ≤ s
at_most x r s low high =
    elim (cases_lt s r) [
      | inl more ↦ (let p : (s + 1) * (s + 1) ≤ r * r = mul-le (s + 1) (s + 1) r r (omega arith) (omega arith) in absurd (omega arith))
      | inr less ↦ less
    ]

pub whole_root_is : (x r : ℕ) → x < 4 ^ 64 → r * r ≤ x → x < (r + 1) * (r + 1) → r ≡ whole_root x
whole_root_is x r small low high =
    let root = whole_root-greatest x small in
    let below = at_most x r (whole_root x) low root.greatest in
    let above = at_most x (whole_root x) r root.square high in
    omega arith

pub above_root : (x r s : ℕ) → r * r < x → x ≤ s * s → r + 1 ≤ s
above_root x r s no_square big =
    elim (cases_lt r s) [
      | inl more ↦ (omega arith)
      | inr less ↦ (let p : s * s ≤ r * r = mul-le s s r r less less in absurd (omega arith))
    ]

-- the same for the least number whose square is at least x, for x a square or not
least : (b : Bool) (x r : ℕ) → b ≡ (r * r == x) → r * r ≤ x → x < (r + 1) * (r + 1) → IsRootCeil x (cond b r (r + 1))
least true x r went below above =
    let square : r * r ≡ x = grind (arith, nat_tests) in
    record { square = omega arith; least = λ s big. at_most (s * s) r s (omega arith) (omega arith) }
least false x r went below above =
    let no_square : r * r < x = grind (arith, nat_tests) in
    record { square = omega arith; least = λ s big. above_root x r s no_square big }

pub whole_root_above-least : (x : ℕ) → x < 4 ^ 64 → IsRootCeil x (whole_root_above x)
unfolding whole_root_above
whole_root_above-least x small = let root = whole_root-greatest x small in
    least (whole_root x * whole_root x == x) x (whole_root x) refl root.square root.greatest

pub whole_root_above_is : (x r : ℕ) → x < 4 ^ 64 → x ≤ r * r → ((s : ℕ) → x ≤ s * s → r ≤ s) → r ≡ whole_root_above x
whole_root_above_is x r small square least_one =
    let root = whole_root_above-least x small in
    let below = least_one (whole_root_above x) root.square in
    let above = root.least r square in
    omega arith
