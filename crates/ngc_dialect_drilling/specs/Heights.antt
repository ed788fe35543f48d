-- Heights and places of a cycle. A series keeps numbers in units of the program, so that G20, G92 or
-- a new origin inside it moves them, as in LinuxCNC.
use Rattle.std.specs.Prelude.{ℕ, ℤ, pos, ◌+ℤ◌, ◌-ℤ◌, ◌*ℤ◌, Result, Ok, Err}
use Rattle.ngc_fixed_length.specs.Length.{nanometres_in}
use Rattle.ngc_fixed_length.specs.Places.{height}
use Rattle.ngc_fixed_length.specs.Rounding.{nearest}
use Rattle.ngc_fixed_length.specs.declared.modes.Distance.{Distance}
use Rattle.ngc_fixed_length.specs.declared.modes.Distance.TheVariants.{Absolute, Incremental}
use Rattle.ngc_fixed_length.specs.declared.units.Units.{Units}
use Rattle.ngc_dialect_numbers.specs.declared.fault.NoValue.{NoValue}
use Rattle.ngc_dialect_numbers.specs.Numbers.{limited as limited_number}
use Rattle.ngc_dialect_rules.specs.declared.fault.Cause.TheVariants as causes
use Rattle.ngc_dialect_rules.specs.declared.fault.Fault.{Fault}
use Rattle.ngc_dialect_rules.specs.declared.front.Known.{Known}
use Rattle.ngc_dialect_rules.specs.Faults.{◌>>=◌, about_letter}
use Rattle.ngc_dialect_rules.specs.Lengths.{length_in, limited}
use Rattle.ngc_dialect_drilling.specs.Places.{whole_shift, depth_axis, depth_letter}

-- nanometres in a unit, in units of 10^-12
abbrev pub in_unit : Units → ℤ → ℤ
in_unit units l = nearest (l *ℤ pos 1000000000000) (nanometres_in units)

abbrev pub or_too_large : ℕ → Result ℤ NoValue → Result ℤ Fault
or_too_large letter (Ok v) = Ok v
or_too_large letter (Err e) = Err (about_letter causes.LengthTooLarge letter)

abbrev pub number_of : ℕ → ℤ → Result ℤ Fault
number_of letter v = or_too_large letter (limited_number v)

-- the height where the tool is, in coordinates of the program
abbrev pub programmed_height : Known → ℤ
programmed_height k = height k.modes.plane k.place -ℤ whole_shift k (depth_axis k.modes.plane)

-- the same as a number in units of the program
abbrev pub level_here : Known → Result ℤ Fault
level_here k =
    number_of (depth_letter k.modes.plane) (in_unit k.modes.units (programmed_height k))

abbrev pub added : ℕ → ℤ → ℤ → Result ℤ Fault
added letter base length = limited letter (base +ℤ length)

-- the machine height of a number of the program
abbrev pub machine_height : Known → ℕ → ℤ → Result ℤ Fault
machine_height k letter v = do
  length ← length_in k.modes.units letter v
  added letter (whole_shift k (depth_axis k.modes.plane)) length

-- a machine height in G90, a distance in G91
abbrev pub height_in : Distance → Known → ℕ → ℤ → Result ℤ Fault
height_in Absolute k letter v = machine_height k letter v
height_in Incremental k letter v = length_in k.modes.units letter v

abbrev pub cycle_height : Known → ℕ → ℤ → Result ℤ Fault
cycle_height k letter v = height_in k.modes.distance k letter v
