-- Square roots, rounded to the nearest whole number.
use Rattle.std.specs.Prelude.{ℕ, ◌+◌, ◌-◌, ◌*◌, ◌≤◌, nat_lt, ℤ, pos, negsuc, Result, Ok, Err, if◌then◌else◌}
use Rattle.ngc_fixed_length.specs.Roots.{whole_root}
use Rattle.ngc_dialect_numbers.specs.declared.fault.NoValue.{NoValue}
use Rattle.ngc_dialect_numbers.specs.declared.fault.NoValue.TheVariants.{NegativeRoot}
use Rattle.ngc_dialect_numbers.specs.Numbers.{ONE, limited}

-- r is a whole number nearest to the root of x: twice the root is from 2r - 1 to 2r + 1
pub record IsNearestRoot (x r : ℕ) : Type 0 where
  pub low : (2 * r - 1) * (2 * r - 1) ≤ 4 * x
  pub high : 4 * x ≤ (2 * r + 1) * (2 * r + 1)

-- the whole root or the number after it
abbrev pub nearest_root : ℕ → ℕ
nearest_root x =
    if nat_lt (whole_root x) (x - whole_root x * whole_root x) then whole_root x + 1 else whole_root x

-- the root of a number of units, in units
abbrev pub square_root : ℤ → Result ℤ NoValue
square_root (pos x) = limited (pos (nearest_root (x * ONE)))
square_root (negsuc x) = Err NegativeRoot
