-- Whole square roots. Our own: the manual computes on real numbers.
use Rattle.std.specs.Prelude.{ℕ, zero, suc, ◌+◌, ◌*◌, ◌/◌, ◌≤◌, ◌<◌, ◌==◌, nat_le, if◌then◌else◌}

-- r is the greatest number with r*r ≤ x
pub record IsRootFloor (x r : ℕ) : Type 0 where
  pub square : r * r ≤ x
  pub greatest : x < (r + 1) * (r + 1)

-- r is the least number with x ≤ r*r
pub record IsRootCeil (x r : ℕ) : Type 0 where
  pub square : x ≤ r * r
  pub least : (s : ℕ) → x ≤ s * s → r ≤ s

-- twice the root of x/4, plus 1 if the square of that is at most x
abbrev pub next_root : ℕ → ℕ → ℕ
next_root x r = if nat_le ((2 * r + 1) * (2 * r + 1)) x then 2 * r + 1 else 2 * r

-- the greatest r with r*r ≤ x, for x below 4^n
unfoldable pub root_of_digits : ℕ → ℕ → ℕ
root_of_digits zero x = 0
root_of_digits (suc n) x = next_root x (root_of_digits n (x / 4))

-- the greatest r with r*r ≤ x, and the least with x ≤ r*r, for x below 2^128
unfoldable pub whole_root : ℕ → ℕ
unfolding root_of_digits
whole_root x = root_of_digits 64 x

unfoldable pub whole_root_above : ℕ → ℕ
unfolding whole_root
whole_root_above x = if whole_root x * whole_root x == x then whole_root x else whole_root x + 1
