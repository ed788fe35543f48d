-- The limits of numbers, and the results of arithmetic on values. Our own rule: the manual leaves
-- precision open.
use Rattle.std.specs.Prelude.{ℕ, ℤ, pos, ◌+ℤ◌, ◌-ℤ◌, ◌*ℤ◌, ◌==◌, unsigned_abs, ◌≤◌, Result, Err}
use Rattle.std.specs.Prelude.{if◌then◌else◌}
use Rattle.ngc_fixed_length.specs.declared.fault.NumberFault.{NumberFault}
use Rattle.ngc_fixed_length.specs.declared.fault.NumberFault.TheVariants.{DivisionByZero}
use Rattle.ngc_fixed_length.specs.declared.units.Units.{Units}
use Rattle.ngc_fixed_length.specs.NumberFault.{within}
use Rattle.ngc_fixed_length.specs.Rounding.{nearest}
use Rattle.ngc_fixed_length.specs.Length.{nanometres_in}

-- millionths in one unit
abbrev pub MILLION : ℕ
MILLION = 1000000

-- 10^9 units, in millionths
abbrev pub VALUE_LIMIT : ℕ
VALUE_LIMIT = 1000000000000000

abbrev pub IsValue : ℤ → Type 0
IsValue z = unsigned_abs z ≤ VALUE_LIMIT

-- 10^11 nanometres, which is a hundred metres
abbrev pub LENGTH_LIMIT : ℕ
LENGTH_LIMIT = 100000000000

abbrev pub IsLength : ℤ → Type 0
IsLength z = unsigned_abs z ≤ LENGTH_LIMIT

-- the number, if it is a value; otherwise too large
abbrev pub limited : ℤ → Result ℤ NumberFault
limited z = within VALUE_LIMIT z

abbrev pub sum : ℤ → ℤ → Result ℤ NumberFault
sum x y = limited (x +ℤ y)

abbrev pub difference : ℤ → ℤ → Result ℤ NumberFault
difference x y = limited (x -ℤ y)

-- products and quotients are rounded to the nearest millionth
abbrev pub product : ℤ → ℤ → Result ℤ NumberFault
product x y = limited (nearest (x *ℤ y) (pos MILLION))

abbrev pub quotient : ℤ → ℤ → Result ℤ NumberFault
quotient x y =
    if unsigned_abs y == 0 then Err DivisionByZero else limited (nearest (x *ℤ pos MILLION) y)

-- a number of millionths of a unit, to the nearest nanometre
abbrev pub nanometres_of : Units → ℤ → ℤ
nanometres_of units value = nearest (value *ℤ nanometres_in units) (pos MILLION)

-- the same as a length, or too large
abbrev pub length_of : Units → ℤ → Result ℤ NumberFault
length_of units value = within LENGTH_LIMIT (nanometres_of units value)
