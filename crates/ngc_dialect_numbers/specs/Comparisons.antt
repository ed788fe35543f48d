-- Comparisons, and AND, OR and XOR. LinuxCNC's EQ and NE take numbers as equal that are less than 0.0001 apart. The other comparisons take
-- numbers as equal that are within 10^-9: our own.
use Rattle.std.specs.Prelude.{ℕ, nat_lt, ◌==◌, Bool, not, ◌&&◌, ◌||◌, ℤ, pos, ◌+ℤ◌, ◌-ℤ◌, unsigned_abs, int_lt, if◌then◌else◌}

abbrev pub equals : ℤ → ℤ → Bool
equals x y = nat_lt (unsigned_abs (x -ℤ y)) 100000000

abbrev pub differs : ℤ → ℤ → Bool
differs x y = not (equals x y)

-- more than 10^-9 below
abbrev pub is_below : ℤ → ℤ → Bool
is_below x y = int_lt (x +ℤ pos 1000) y

abbrev pub is_at_most : ℤ → ℤ → Bool
is_at_most x y = not (is_below y x)

abbrev pub is_true : ℤ → Bool
is_true x = not (unsigned_abs x == 0)

abbrev pub both : ℤ → ℤ → Bool
both x y = is_true x && is_true y

abbrev pub either : ℤ → ℤ → Bool
either x y = is_true x || is_true y

abbrev pub one_of : ℤ → ℤ → Bool
one_of x y = if is_true x then not (is_true y) else is_true y
