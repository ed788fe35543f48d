-- What the values of a line refer to.
use Rattle.std.specs.Prelude.{ℕ, ◌==◌, ◌&&◌, ◌||◌, nat_lt, nat_le, not, ℤ, pos, List, Option, Some, None, Bool}
use Rattle.std.specs.Prelude.{Result, Ok, Err, if◌then◌else◌}
use Rattle.std.specs.Option.{is_some}
use Rattle.ngc_dialect_names.specs.declared.dialect.Dialect.{Dialect}
use Rattle.ngc_dialect_parameters.specs.declared.fault.Cause.{Cause}
use Rattle.ngc_dialect_parameters.specs.declared.fault.Cause.TheVariants as causes
use Rattle.ngc_dialect_parameters.specs.declared.statement.Statement.{Statement}
use Rattle.ngc_dialect_parameters.specs.declared.parameters.Parameters.{Parameters}
use Rattle.ngc_dialect_parameters.specs.Rules.{COUNT, first_of_control, has_macros}
use Rattle.ngc_dialect_parameters.specs.Settings.{after_all}
use Rattle.ngc_dialect_parameters.specs.Names.{is_global}
use Rattle.ngc_dialect_parameters.specs.Stored.{Stored, number_in, name_in}

pub record Known : Type 0 where
  pub dialect : Dialect
  pub numbers : ℕ → Option ℤ  -- the values to which the program has set parameters
  pub names : List ℕ → Option ℤ
  pub control_numbers : ℕ → Option ℤ  -- the values that the control has
  pub control_names : List ℕ → Option ℤ

-- by what the program has set
abbrev pub known_from : Stored → (ℕ → Option ℤ) → (List ℕ → Option ℤ) → Known
known_from k numbers names =
    record { dialect = k.dialect; numbers = k.numbers; names = k.names; control_numbers = numbers; control_names = names }

abbrev pub known : {A : Type 0} → Parameters A → (ℕ → Option ℤ) → (List ℕ → Option ℤ) → Known
known p numbers names =
    record { dialect = p.dialect; numbers = number_in p; names = name_in p; control_numbers = numbers; control_names = names }

abbrev pub or_zero : Option ℤ → Option ℤ
or_zero None = Some (pos 0)
or_zero (Some z) = Some z

-- The value of a parameter of the program: LinuxCNC's are 0 until they are set. Fanuc's are empty
-- until they are set, also by a statement before on the line. `set` is what the lines before set.
abbrev pub own : Dialect → List Statement → ℕ → Option ℤ → Option ℤ
own d done n set = if has_macros d then after_all done n set else or_zero set

-- the value of a parameter of the control, by what the control has and what the program has set
abbrev pub from_control : Option ℤ → Option ℤ → Result (Option ℤ) Cause
from_control (Some z) set = Ok (Some z)
from_control None (Some z) = Ok (Some z)
from_control None None = Err causes.Unset

-- the value of parameter n on a line of which some statements are done
abbrev pub value : Known → List Statement → ℕ → Result (Option ℤ) Cause
value k done n =
    if nat_lt n (first_of_control k.dialect) then Ok (own k.dialect done n (k.numbers n))
    else from_control (k.control_numbers n) (k.numbers n)

-- the control's value of a name; it knows only names that begin with '_'
abbrev pub control_name : Known → List ℕ → Option ℤ
control_name k name = if is_global name then k.control_names name else None

abbrev pub first_of : Option ℤ → Option ℤ → Option ℤ
first_of None other = other
first_of (Some z) other = Some z

-- the value of a name, if it is set
abbrev pub found : Known → List ℕ → Option ℤ
found k name = first_of (control_name k name) (k.names name)

-- The number n, if the program may set that parameter: one of its own, or one in LinuxCNC's range for
-- which the control has no value.
abbrev pub settable : Known → ℕ → Result ℕ Cause
settable k n =
    if nat_lt n (first_of_control k.dialect) && not (n == 0) then Ok n else (
    if has_macros k.dialect || (nat_le COUNT n || is_some (k.control_numbers n)) then Err causes.ReadOnly else Ok n)

abbrev pub is_settable : Known → List ℕ → Bool
is_settable k name = not (is_some (control_name k name))
