-- The texts of refusals: what is wrong, and what to enter instead.
use Rattle.std.specs.Prelude.{ℕ, List, ◌++◌, codes, decimal}
use Rattle.ngc_text.specs.Millimetres.{size_text}
use Rattle.ngc_machine_maker.specs.declared.figures.Axis.{Axis}
use Rattle.ngc_machine_maker.specs.declared.figures.Axis.TheVariants as axes
use Rattle.ngc_machine_maker.specs.declared.figures.PerAxis.{PerAxis}
use Rattle.ngc_machine_maker.specs.declared.figures.StepsPerMillimetre.{StepsPerMillimetre}
use Rattle.ngc_machine_maker.specs.declared.refusal.Field.{Field}
use Rattle.ngc_machine_maker.specs.declared.refusal.Field.TheVariants as fields
use Rattle.ngc_machine_maker.specs.declared.refusal.FigureRefusal.{FigureRefusal}
use Rattle.ngc_machine_maker.specs.declared.refusal.FigureRefusal.TheVariants as refusals
use Rattle.ngc_machine_maker.specs.declared.refusal.Stop.{Stop}
use Rattle.ngc_machine_maker.specs.declared.refusal.Stop.TheVariants as stops
use Rattle.ngc_machine_maker.specs.declared.refusal.Stored.{Stored}
use Rattle.ngc_machine_maker.specs.Stored.{stored_text}

unfoldable pub axis_text : Axis → List ℕ
axis_text axes.X = codes "X"
axis_text axes.Y = codes "Y"
axis_text axes.Z = codes "Z"

unfoldable pub stop_text : Stop → List ℕ
stop_text stops.Start = codes "start"
stop_text stops.Home28 = codes "home28"
stop_text stops.Home30 = codes "home30"

unfoldable pub field_text : Field → List ℕ
field_text fields.Steps = codes
    "--steps-per-mm is not one number or three, with at most six decimals, as 188.976 or 100,100,400"
field_text fields.Travel = codes
    "--travel is not three lengths in mm, with at most six decimals, as 300,180,45"
field_text fields.Feed = codes
    "--feed is not three speeds in mm/min, with at most three decimals, as 1000,1000,600"
field_text fields.Acceleration = codes
    "--acceleration is not three numbers in mm/s^2 with up to three decimals, as 30,30,20"
field_text fields.Frame = codes "--frame is neither low nor high"
field_text fields.Corner = codes
    "--corner is not a speed in mm/s, with at most three decimals, as 5"
field_text fields.Jump = codes "--jump is not a speed in mm/s, with at most three decimals, as 5"
field_text fields.Arcs = codes
    "--turn is not a number in mm/s^2, with at most three decimals, as 30"
field_text fields.Ticks = codes "--ticks is not a whole number, as 40000"
field_text fields.Ring = codes "--ring is not a whole number, as 64"
field_text (fields.Stop stop) = codes "--" ++ stop_text stop
    ++ codes " is not three coordinates in mm, as 0,0,-1: below zero where zero is the high end"

-- what is wrong with the value of a setting on a line
unfoldable pub value_text : ℕ → ℕ → List ℕ → List ℕ
value_text number at mistake = codes "line " ++ decimal at ++ codes ": the value of $"
    ++ decimal number ++ mistake

-- what a place in a dump must be
unfoldable pub place_text : Stored → ℕ → List ℕ → List ℕ
place_text stored at limit = codes "line " ++ decimal at ++ codes ": the place of "
    ++ stored_text stored ++ codes " is not X, Y and Z, each at most " ++ limit
    ++ codes " from zero: correct it"

-- ---- motors that differ

unfoldable pub unequal_text : PerAxis StepsPerMillimetre → List ℕ
unequal_text m = codes "the motors have " ++ size_text m.x.millionths ++ codes ", "
    ++ size_text m.y.millionths ++ codes " and " ++ size_text m.z.millionths
    ++ codes " steps a mm, and with --rates one step serves all axes: leave out --rates"

unfoldable pub refusal_text : FigureRefusal → List ℕ
refusal_text (refusals.Unread field) = field_text field
refusal_text refusals.Step = codes
    "a step is not from 500 to 50000 nm: give from 20 to 2000 steps a mm"
refusal_text refusals.Ticks = codes
    "the ticks a second are not from 1 to 1000000: give a number between"
refusal_text refusals.Ring = codes
    "the ring is not from 16 to 1024 commands: give a number between"
refusal_text (refusals.SlowFeed axis) = axis_text axis
    ++ codes " has less than a millionth of a step in a tick: give a greater feed or fewer ticks"
refusal_text (refusals.FastFeed axis) = axis_text axis
    ++ codes " has more than a step in a tick: give a smaller feed or more ticks"
refusal_text refusals.SlowCorner = codes
    "the corner speed is below a millionth of a step a tick: give more, or fewer ticks"
refusal_text refusals.LowAcceleration = codes
    "the acceleration is too small for a machine file: give more, or fewer ticks"
refusal_text refusals.LowArcs = codes
    "the acceleration on arcs is too small for a machine file: give more, or fewer ticks"
refusal_text (refusals.Travel axis) = codes "the travel of " ++ axis_text axis
    ++ codes " is not from a step to 1000 mm: give a length between"
refusal_text (refusals.FarTravel axis) = codes "the travel of " ++ axis_text axis
    ++ codes " is not from a step to 3999 mm: give a length between"
refusal_text (refusals.Outside stop axis) = stop_text stop ++ codes " is outside the travel of "
    ++ axis_text axis ++ codes ": give a place within it"
refusal_text (refusals.Missing number) = codes "the setting $" ++ decimal number
    ++ codes " is missing: give all lines that Grbl prints after $$"
refusal_text (refusals.Setting number at) =
    value_text number at (codes " is not a number, as in $100=800.000")
refusal_text (refusals.Negative number at) = value_text number at
    (codes " is below zero, and this setting can't be: write it without the minus sign")
refusal_text (refusals.Digits number at) = value_text number at
    (codes " has too many digits: write it as Grbl does, with at most three decimals")
refusal_text (refusals.Place stored at) = place_text stored at (codes "1000 mm")
refusal_text (refusals.FarPlace stored at) = place_text stored at (codes "4000 mm")
refusal_text (refusals.UnequalSteps motors) = unequal_text motors

-- a sentence on a line of its own
abbrev pub refusal_line : FigureRefusal → List ℕ
refusal_line refusal = refusal_text refusal ++ codes "\n"
