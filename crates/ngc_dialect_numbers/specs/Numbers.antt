-- Numbers of other controls' programs: whole multiples of 10^-12. The rules of rounding and range are our own: controls compute with
-- floating point.
use Rattle.std.specs.Prelude.{ℕ, ◌*◌, ◌/◌, ◌^◌, ◌<◌, ◌≤◌, ◌==◌, nat_le, Bool, true, false, ◌||◌, if◌then◌else◌}
use Rattle.std.specs.Prelude.{ℤ, pos, neg_ℤ, ◌+ℤ◌, ◌-ℤ◌, ◌*ℤ◌, unsigned_abs, Option, Some, None, Result, Ok, Err}
use Rattle.std.specs.Int.{int_rem_euclid, int_div_euclid}
use Rattle.ngc_fixed_length.specs.Rounding.{nearest}
use Rattle.ngc_dialect_numbers.specs.declared.fault.NoValue.{NoValue}
use Rattle.ngc_dialect_numbers.specs.declared.fault.NoValue.TheVariants.{OutOfRange, DivisionByZero}

-- the units in 1
abbrev pub ONE : ℕ
ONE = 1000000000000

-- 10^9, in units
abbrev pub LIMIT : ℕ
LIMIT = 1000000000000000000000

abbrev pub IsNumber : ℤ → Type 0
IsNumber z = unsigned_abs z ≤ LIMIT

-- a number by its sign and its size
abbrev pub signed : Bool → ℕ → ℤ
signed true n = neg_ℤ (pos n)
signed false n = pos n

-- the number, if it is in range
abbrev pub limited : ℤ → Result ℤ NoValue
limited z = if nat_le (unsigned_abs z) LIMIT then Ok z else Err OutOfRange

abbrev pub truth : Bool → ℤ
truth holds = if holds then pos ONE else pos 0

abbrev pub sum : ℤ → ℤ → Result ℤ NoValue
sum x y = limited (x +ℤ y)

abbrev pub difference : ℤ → ℤ → Result ℤ NoValue
difference x y = limited (x -ℤ y)

-- products and quotients are rounded to the nearest unit
abbrev pub product : ℤ → ℤ → Result ℤ NoValue
product x y = limited (nearest (x *ℤ y) (pos ONE))

abbrev pub quotient : ℤ → ℤ → Result ℤ NoValue
quotient x y = if unsigned_abs y == 0 then Err DivisionByZero else limited (nearest (x *ℤ pos ONE) y)

-- the remainder that is at least 0, as LinuxCNC's MOD has it
abbrev pub modulo : ℤ → ℤ → Result ℤ NoValue
modulo x y = if unsigned_abs y == 0 then Err DivisionByZero else Ok (int_rem_euclid x y)

abbrev pub size : ℤ → ℤ
size x = pos (unsigned_abs x)

-- the greatest whole number that is at most x, or within 10^-9 above it
abbrev pub floor : ℤ → ℤ
floor x = int_div_euclid (x +ℤ pos 1000) (pos ONE) *ℤ pos ONE

-- the least whole number that is at least x, or within 10^-9 below it
abbrev pub ceiling : ℤ → ℤ
ceiling x = neg_ℤ (floor (neg_ℤ x))

abbrev pub rounded : ℤ → ℤ
rounded x = nearest x (pos ONE) *ℤ pos ONE

-- whether a product is at most a limit
abbrev pub is_within : ℕ → ℕ → ℕ → Bool
is_within limit x y = nat_le (x * y) limit

-- a product in units, unless it is over 10^36 before it is rounded
abbrev pub rounded_product : ℤ → ℤ → Option ℤ
rounded_product x y =
    if is_within (10 ^ 36) (unsigned_abs x) (unsigned_abs y) then Some (nearest (x *ℤ y) (pos ONE)) else None
