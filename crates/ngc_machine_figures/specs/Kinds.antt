-- The kinds of values. Our own.
use Rattle.std.specs.Prelude.{ℕ, ℤ, pos, unsigned_abs, int_le, List, codes, find, Option, Some, None, option_map}
use Rattle.std.specs.Prelude.{option_and_then, Result, Ok, Bool, ◌&&◌, if◌then◌else◌}
use Rattle.std.specs.Str.{bytes_eq}
use Rattle.toml.specs.Data.{Data, as_integer, as_str, as_bool}
use Rattle.ngc_dialect_names.specs.Names.{named_dialect}
use Rattle.ngc_dialect_names.specs.declared.dialect.Dialect.{Dialect}
use Rattle.ngc_machine_files.specs.Names.{name_of}
use Rattle.ngc_machine_files.specs.Tree.{rapids_named}
use Rattle.ngc_machine_files.specs.declared.machine.Rapids.{Rapids}
use Rattle.ngc_quantities.specs.Motors.{motor_of}
use Rattle.ngc_quantities.specs.Quantities.{length_of, speed_of, acceleration_of}
use Rattle.ngc_quantities.specs.Ranges.{length_range_of, place_of}
use Rattle.ngc_quantities.specs.declared.fault.Fault.{Fault}
use Rattle.ngc_quantities.specs.declared.motor.Step.{Step}
use Rattle.ngc_quantities.specs.declared.range.Place.{Place}
use Rattle.ngc_quantities.specs.declared.range.Range.{Range}
use Rattle.ngc_machine_figures.specs.declared.key.Key.{Key}
use Rattle.ngc_machine_figures.specs.declared.key.Key.TheVariants as keys
use Rattle.ngc_machine_figures.specs.declared.key.TheConstants as tables
use Rattle.ngc_machine_figures.specs.declared.refusal.FileRefusal.{FileRefusal}
use Rattle.ngc_machine_figures.specs.declared.refusal.Form.TheVariants as forms
use Rattle.ngc_machine_figures.specs.declared.refusal.Wrong.TheVariants as wrongs
use Rattle.ngc_machine_figures.specs.declared.sheet.Acceleration.{Acceleration}
use Rattle.ngc_machine_figures.specs.declared.sheet.Length.{Length}
use Rattle.ngc_machine_figures.specs.declared.sheet.Speed.{Speed}
use Rattle.ngc_machine_figures.specs.declared.sheet.System.{System}
use Rattle.ngc_machine_figures.specs.Keys.{system_name}
use Rattle.ngc_machine_figures.specs.Reading.{◌>>=◌, found, text_value}

-- ---- texts with a unit

unfoldable pub length_in : List ℕ → Result Length Fault
length_in text = length_of text >>= λ n. Ok (record { nanometres = n })

unfoldable pub speed_in : List ℕ → Result Speed Fault
speed_in text = speed_of text >>= λ n. Ok (record { nanometres_a_minute = n })

unfoldable pub acceleration_in : List ℕ → Result Acceleration Fault
acceleration_in text = acceleration_of text >>= λ n. Ok (record { nanometres_a_second_squared = n })

unfoldable pub length_value : Key → Data → Result Length FileRefusal
length_value key value = text_value length_in forms.Length key value

unfoldable pub speed_value : Key → Data → Result Speed FileRefusal
speed_value key value = text_value speed_in forms.Speed key value

unfoldable pub acceleration_value : Key → Data → Result Acceleration FileRefusal
acceleration_value key value = text_value acceleration_in forms.Acceleration key value

unfoldable pub motor_value : Key → Data → Result Step FileRefusal
motor_value key value = text_value motor_of forms.Motor key value

unfoldable pub range_value : Key → Data → Result Range FileRefusal
range_value key value = text_value length_range_of forms.Range key value

unfoldable pub place_value : Key → Data → Result Place FileRefusal
place_value key value = text_value place_of forms.Place key value

-- ---- words

abbrev pub dialect_in : Data → Option Dialect
dialect_in value = option_and_then named_dialect (as_str value)

unfoldable pub dialect_value : Key → Data → Result Dialect FileRefusal
dialect_value key value = found key wrongs.NoDialect (dialect_in value)

abbrev pub rapids_in : Data → Option Rapids
rapids_in value = option_and_then rapids_named (as_str value)

unfoldable pub rapids_value : Key → Data → Result Rapids FileRefusal
rapids_value key value = found key wrongs.NoRapids (rapids_in value)

abbrev pub name_in : Data → Option (List ℕ)
name_in value = option_and_then name_of (as_str value)

unfoldable pub name_value : Key → Data → Result (List ℕ) FileRefusal
name_value key value = found key wrongs.NoName (name_in value)

-- 1 for G54, .., 9 for G59.3
unfoldable pub system_number : List ℕ → Option ℕ
system_number text = find (λ n. bytes_eq text (system_name n)) tables.SYSTEMS

abbrev pub system_in : Data → Option System
system_in value = option_map (λ n. record { number = n }) (option_and_then system_number (as_str value))

unfoldable pub system_value : Key → Data → Result System FileRefusal
system_value key value = found key wrongs.NoSystem (system_in value)

-- ---- flags and whole numbers

unfoldable pub flag_value : Key → Data → Result Bool FileRefusal
flag_value key value = found key wrongs.NoBool (as_bool value)

-- the least and the greatest number that a key may have
abbrev pub bounds_of : Key → ℕ × ℕ
bounds_of keys.Ticks = (1, 1000000)
bounds_of keys.Ring = (16, 1024)
bounds_of _ = (0, 2)

abbrev pub whole_from : ℕ → ℕ → ℤ → Option ℕ
whole_from low high n =
    if int_le (pos low) n && int_le n (pos high) then Some (unsigned_abs n) else None

abbrev pub whole_in : ℕ → ℕ → Data → Option ℕ
whole_in low high value = option_and_then (whole_from low high) (as_integer value)

unfoldable pub whole_value : Key → Data → Result ℕ FileRefusal
whole_value key value =
    let bounds = bounds_of key in
    found key (wrongs.NoWhole bounds.0 bounds.1) (whole_in bounds.0 bounds.1 value)
