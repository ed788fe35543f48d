-- The number of a parameter, from a value. It may differ from a whole number by 0.0001, as in
-- LinuxCNC. Only Fanuc's dialect has a parameter 0, which is always empty.
use Rattle.std.specs.Prelude.{ℕ, ◌/◌, ◌==◌, ◌&&◌, ◌||◌, nat_lt, not, ℤ, pos, ◌-ℤ◌, unsigned_abs, int_lt}
use Rattle.std.specs.Prelude.{Result, Ok, Err, if◌then◌else◌}
use Rattle.ngc_dialect_names.specs.declared.dialect.Dialect.{Dialect}
use Rattle.ngc_dialect_numbers.specs.Numbers.{ONE, rounded}
use Rattle.ngc_dialect_parameters.specs.declared.fault.Cause.{Cause}
use Rattle.ngc_dialect_parameters.specs.declared.fault.Cause.TheVariants as causes
use Rattle.ngc_dialect_parameters.specs.Rules.{has_macros}

abbrev pub index_of : Dialect → ℤ → Result ℕ Cause
index_of d z =
    if nat_lt 100000000 (unsigned_abs (z -ℤ rounded z)) then Err causes.IndexNotWhole else (
    if int_lt (rounded z) (pos 0) || ((unsigned_abs (rounded z) == 0) && not (has_macros d))
    then Err causes.IndexOutOfRange else Ok (unsigned_abs (rounded z) / ONE))
