-- Tests on signed numbers.
use Rattle.std.specs.Prelude.{ℕ, ◌==◌, nat_le, ℤ, pos, negsuc, ◌-ℤ◌, unsigned_abs, int_lt, Bool}
use Rattle.std.specs.Prelude.{true, false, if◌then◌else◌}

abbrev pub is_zero : ℤ → Bool
is_zero z = unsigned_abs z == 0

abbrev pub same : ℤ → ℤ → Bool
same x y = is_zero (x -ℤ y)

-- the size is at most n
abbrev pub is_within : ℕ → ℤ → Bool
is_within n z = nat_le (unsigned_abs z) n

abbrev pub is_negative : ℤ → Bool
is_negative (pos n) = false
is_negative (negsuc n) = true

abbrev pub greater : ℤ → ℤ → ℤ
greater x y = if int_lt x y then y else x

abbrev pub lesser : ℤ → ℤ → ℤ
lesser x y = if int_lt x y then x else y
