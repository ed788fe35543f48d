-- A move of a cycle as plain lines, by the modes in force.
use Rattle.std.specs.Prelude.{ℤ, ◌-ℤ◌, List, [], ◌∷◌, Option, Some, None, Result, Ok, false}
use Rattle.std.specs.Prelude.{if◌then◌else◌}
use Rattle.ngc_fixed_length.specs.Signed.{same}
use Rattle.ngc_fixed_length.specs.declared.modes.Distance.{Distance}
use Rattle.ngc_fixed_length.specs.declared.modes.Distance.TheVariants.{Absolute, Incremental}
use Rattle.ngc_fixed_length.specs.declared.modes.Turn.{Turn}
use Rattle.ngc_fixed_length.specs.declared.modes.Turn.TheVariants.{Clockwise, Counterclockwise}
use Rattle.ngc_fixed_length.specs.declared.points.Point3.{Point3}
use Rattle.ngc_canned_cycles.specs.declared.cycle.CycleMove.{CycleMove}
use Rattle.ngc_canned_cycles.specs.declared.cycle.CycleMove.TheVariants.{Traverse, Feed, Dwell}
use Rattle.ngc_canned_cycles.specs.declared.cycle.CycleMove.TheVariants.{StopSpindle, StartSpindle}
use Rattle.ngc_offsets.specs.declared.fault.Axis.{Axis}
use Rattle.ngc_offsets.specs.declared.fault.Axis.TheVariants.{X, Y, Z}
use Rattle.ngc_offsets.specs.declared.given.AxisLengths.{AxisLengths}
use Rattle.ngc_dialect_rules.specs.declared.code.Code.{Code}
use Rattle.ngc_dialect_rules.specs.declared.code.Code.TheVariants.{G, M}
use Rattle.ngc_dialect_rules.specs.declared.fault.Fault.{Fault}
use Rattle.ngc_dialect_rules.specs.declared.front.Known.{Known}
use Rattle.ngc_line_reader.specs.declared.letter.Letter.TheVariants as letters
use Rattle.ngc_dialect_rules.specs.declared.plain.Plain.{Plain}
use Rattle.ngc_dialect_rules.specs.declared.plain.Plain.TheVariants as plain
use Rattle.ngc_dialect_rules.specs.declared.plan.Action.{Action}
use Rattle.ngc_dialect_rules.specs.Actions.{is_mode, no_lengths}
use Rattle.ngc_dialect_rules.specs.Faults.{◌>>=◌}
use Rattle.ngc_dialect_rules.specs.Lengths.{limited}
use Rattle.ngc_dialect_rules.specs.Plain.{code_word, word, with_action}
use Rattle.ngc_dialect_drilling.specs.Places.{own_shift, letter_of}

-- the coordinate from which an axis word counts
abbrev pub base_of : Distance → Known → Axis → ℤ → ℤ
base_of Absolute k axis here = own_shift k axis
base_of Incremental k axis here = here

abbrev pub some_length : Result ℤ Fault → Result (Option ℤ) Fault
some_length r = r >>= λ l. Ok (Some l)

-- the word by which an axis goes to a machine coordinate
abbrev pub word_to : Known → Axis → ℤ → ℤ → Result (Option ℤ) Fault
word_to k axis here there =
    some_length (limited (letter_of axis) (there -ℤ base_of k.modes.distance k axis here))

-- an axis that stays has no word
abbrev pub length_to : Known → Axis → ℤ → ℤ → Result (Option ℤ) Fault
length_to k axis here there = if same here there then Ok None else word_to k axis here there

abbrev pub lengths_to : Known → Point3 → Result AxisLengths Fault
lengths_to k end = do
  x ← length_to k X k.place.x end.x
  y ← length_to k Y k.place.y end.y
  z ← length_to k Z k.place.z end.z
  Ok (record { x = x; y = y; z = z })

-- the code is written unless it is the motion mode
abbrev pub written : Known → Code → Option Code
written k code = if is_mode k.modes.motion code then None else Some code

abbrev pub motion_to : Known → Code → Point3 → Result Action Fault
motion_to k code end = do
  axes ← lengths_to k end
  Ok (record {
    is_machine = false;
    code = written k code;
    l = None;
    p = None;
    axes = axes;
    centre = no_lengths;
    f = None;
  })

abbrev pub motion_lines : Known → Code → Point3 → Result (List Plain) Fault
motion_lines k code end = do
  action ← motion_to k code end
  Ok (with_action k.modes.units action [])

-- ---- lines without a motion

abbrev pub code_line : Code → List Plain
code_line code = plain.Word (code_word code) ∷ plain.End ∷ []

-- G4 with P in millionths of a second
abbrev pub dwell_line : ℤ → List Plain
dwell_line p = plain.Word (code_word (G 40)) ∷ plain.Word (word letters.P p) ∷ plain.End ∷ []

-- the line of a stop, if there is one
abbrev pub stop_lines : Option Code → List Plain
stop_lines None = []
stop_lines (Some code) = code_line code

-- the code by which the spindle turns in a direction
abbrev pub spindle_code : Option Turn → Code
spindle_code (Some Clockwise) = M 3
spindle_code (Some Counterclockwise) = M 4
spindle_code None = M 5

abbrev pub move_lines : Known → CycleMove → Result (List Plain) Fault
move_lines k (Traverse end) = motion_lines k (G 0) end
move_lines k (Feed end) = motion_lines k (G 10) end
move_lines k (Dwell p) = Ok (dwell_line p)
move_lines k StopSpindle = Ok (code_line (M 5))
move_lines k StartSpindle = Ok (code_line (spindle_code k.front.spindle))
