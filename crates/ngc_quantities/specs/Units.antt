-- The units. A length has the base unit nanometre, a speed nanometre per minute, an acceleration
-- nanometre per second squared, turning a millionth of a turn per minute, an angle a billionth of a
-- degree. An inch is 25.4 mm. Our own.
use Rattle.std.specs.Prelude.{ℕ, List, codes, Bool, find, Option}
use Rattle.std.specs.Prelude.{◌||◌, true, false}
use Rattle.std.specs.Str.{bytes_eq, str_eq_ignore_ascii_case}
use Rattle.ngc_quantities.specs.declared.unit.Ending.{Ending}
use Rattle.ngc_quantities.specs.declared.unit.Ending.TheVariants as endings
use Rattle.ngc_quantities.specs.declared.unit.Kind.{Kind}
use Rattle.ngc_quantities.specs.declared.unit.Kind.TheVariants as kinds
use Rattle.ngc_quantities.specs.declared.unit.Unit.{Unit}
use Rattle.ngc_quantities.specs.declared.unit.Unit.TheVariants as units
use Rattle.ngc_quantities.specs.declared.unit.TheConstants as tables

abbrev pub units_of : Kind → List Unit
units_of kinds.Length = tables.LENGTHS
units_of kinds.Speed = tables.SPEEDS
units_of kinds.Acceleration = tables.ACCELERATIONS
units_of kinds.Turning = tables.TURNING
units_of kinds.Steps = tables.STEPS
units_of kinds.Angle = tables.ANGLES
units_of kinds.Microsteps = tables.MICROSTEPS
units_of kinds.Teeth = tables.TEETH

abbrev pub name_of : Unit → List ℕ
name_of units.Millimetre = codes "mm"
name_of units.Inch = codes "in"
name_of units.Micrometre = codes "um"
name_of units.Nanometre = codes "nm"
name_of units.MillimetrePerMinute = codes "mm/min"
name_of units.MillimetrePerSecond = codes "mm/s"
name_of units.InchPerMinute = codes "in/min"
name_of units.MillimetrePerSecondSquared = codes "mm/s2"
name_of units.InchPerSecondSquared = codes "in/s2"
name_of units.TurnPerMinute = codes "rpm"
name_of units.StepPerMillimetre = codes "steps/mm"
name_of units.StepPerInch = codes "steps/in"
name_of units.Degree = codes "deg"
name_of units.Microstep = codes "microsteps"
name_of units.Tooth = codes "teeth"

-- a unit in base units of its kind; of steps per length, the length in nanometres
abbrev pub size_of : Unit → ℕ
size_of units.Millimetre = 1000000
size_of units.Inch = 25400000
size_of units.Micrometre = 1000
size_of units.Nanometre = 1
size_of units.MillimetrePerMinute = 1000000
size_of units.MillimetrePerSecond = 60000000
size_of units.InchPerMinute = 25400000
size_of units.MillimetrePerSecondSquared = 1000000
size_of units.InchPerSecondSquared = 25400000
size_of units.TurnPerMinute = 1000000
size_of units.StepPerMillimetre = 1000000
size_of units.StepPerInch = 25400000
size_of units.Degree = 1000000000
size_of units.Microstep = 1
size_of units.Tooth = 1

-- the greatest amount of a kind, in base units: 1,000 m, 1,000 m per minute, 1,000 m per second
-- squared, a million turns per minute, a turn, 99,999 microsteps and teeth
abbrev pub most_of : Kind → ℕ
most_of kinds.Length = 1000000000000
most_of kinds.Speed = 1000000000000
most_of kinds.Acceleration = 1000000000000
most_of kinds.Turning = 1000000000000
most_of kinds.Steps = 1000000000000
most_of kinds.Angle = 360000000000
most_of kinds.Microsteps = 99999
most_of kinds.Teeth = 99999

abbrev pub is_inch : Unit → Bool
is_inch units.Inch = true
is_inch _ = false

-- ---- units by their names

abbrev pub is_named : List ℕ → Unit → Bool
is_named word unit = bytes_eq word (name_of unit)

-- two other names under which people know a unit
abbrev pub second_name_of : Unit → List ℕ
second_name_of units.Millimetre = codes "millimetre"
second_name_of units.Inch = codes "inch"
second_name_of units.Micrometre = codes "micron"
second_name_of units.Nanometre = codes "nanometre"
second_name_of units.MillimetrePerMinute = codes "mmpm"
second_name_of units.MillimetrePerSecond = codes "mm/sec"
second_name_of units.InchPerMinute = codes "ipm"
second_name_of units.MillimetrePerSecondSquared = codes "mm/s^2"
second_name_of units.InchPerSecondSquared = codes "in/s^2"
second_name_of units.TurnPerMinute = codes "1/min"
second_name_of units.StepPerMillimetre = codes "step/mm"
second_name_of units.StepPerInch = codes "step/in"
second_name_of units.Degree = codes "degree"
second_name_of units.Microstep = codes "microstep"
second_name_of units.Tooth = codes "tooth"

abbrev pub third_name_of : Unit → List ℕ
third_name_of units.Millimetre = codes "millimeter"
third_name_of units.Inch = codes "inches"
third_name_of units.Micrometre = codes "microns"
third_name_of units.Nanometre = codes "nanometer"
third_name_of units.MillimetrePerMinute = codes "mm/m"
third_name_of units.MillimetrePerSecond = codes "mm/second"
third_name_of units.InchPerMinute = codes "inch/min"
third_name_of units.MillimetrePerSecondSquared = codes "mm/sec2"
third_name_of units.InchPerSecondSquared = codes "in/sec2"
third_name_of units.TurnPerMinute = codes "rev/min"
third_name_of units.StepPerMillimetre = codes "steps"
third_name_of units.StepPerInch = codes "steps/inch"
third_name_of units.Degree = codes "degrees"
third_name_of units.Microstep = codes "usteps"
third_name_of units.Tooth = codes "tooths"

-- a name of the unit, in capitals or not
abbrev pub is_meant : List ℕ → Unit → Bool
is_meant word unit =
    str_eq_ignore_ascii_case word (name_of unit)
    || (str_eq_ignore_ascii_case word (second_name_of unit)
    || str_eq_ignore_ascii_case word (third_name_of unit))

abbrev pub named : List ℕ → List Unit → Option Unit
named word units = find (is_named word) units

-- the unit with this word as a name, in capitals or not
abbrev pub known : List ℕ → List Unit → Option Unit
known word units = find (is_meant word) units

-- the word after the unit of a length in a motor's chain
abbrev pub ending_text : Ending → List ℕ
ending_text endings.Nothing = codes ""
ending_text endings.Pitch = codes "pitch"
ending_text endings.Belt = codes "belt"
