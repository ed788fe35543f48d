-- A line's codes and words, where compensation is on, begins or ends (LinuxCNC's documentation, "G40",
-- "G41, G42", "G41.1, G42.1").
use Rattle.std.specs.Prelude.{ℤ, Bool, List, [], Option, Some, None, Result, Ok, Err, if◌then◌else◌}
use Rattle.ngc_fixed_length.specs.Signed.{is_zero}
use Rattle.ngc_fixed_length.specs.declared.units.Units.{Units}
use Rattle.ngc_modal_state.specs.declared.code.MotionMode.TheVariants.{Cancel}
use Rattle.ngc_dialect_parameters.specs.declared.statement.Word.{Word}
use Rattle.ngc_dialect_rules.specs.declared.code.Code.{Code}
use Rattle.ngc_dialect_rules.specs.declared.codes.TheConstants as codes
use Rattle.ngc_dialect_rules.specs.declared.fault.Cause.TheVariants as causes
use Rattle.ngc_dialect_rules.specs.declared.fault.Fault.{Fault}
use Rattle.ngc_dialect_rules.specs.declared.front.Front.{Front}
use Rattle.ngc_dialect_rules.specs.declared.front.Known.{Known}
use Rattle.ngc_dialect_rules.specs.declared.plain.Plain.{Plain}
use Rattle.ngc_dialect_rules.specs.declared.plan.Plan.{Plan}
use Rattle.ngc_dialect_rules.specs.Bytes as bytes
use Rattle.ngc_dialect_rules.specs.Faults.{◌>>=◌, about_code, refuse_of}
use Rattle.ngc_dialect_rules.specs.Lengths.{word_length}
use Rattle.ngc_dialect_rules.specs.Plain.{ended}
use Rattle.ngc_dialect_rules.specs.Rules.{front_after, line_plan, modes_written, with_feed}
use Rattle.ngc_dialect_rules.specs.Tables.{code_in, has, is_among}
use Rattle.ngc_dialect_rules.specs.Words.{codes_of, count}
use Rattle.ngc_dialect_path.specs.declared.line.PathLine.{PathLine}
use Rattle.ngc_dialect_path.specs.declared.line.Start.{Start}
use Rattle.ngc_dialect_path.specs.declared.line.Width.{Width}
use Rattle.ngc_dialect_path.specs.declared.line.Width.TheVariants.{Tool, Diameter}
use Rattle.ngc_dialect_path.specs.declared.path.Path.{Path}
use Rattle.ngc_dialect_path.specs.declared.tables.TheConstants as tables
use Rattle.ngc_dialect_path.specs.Refusing.{barred}

-- without a motion mode each motion has its code
abbrev pub without_motion : Known → Known
without_motion k = record k { modes = record k.modes { motion = Cancel } }

-- ---- where the radius is from

abbrev pub diameter_needed : Code → Option ℤ → Result Width Fault
diameter_needed code None = Err (about_code causes.WordMissing code)
diameter_needed code (Some d) = Ok (Diameter d)

-- without D, and by D0, it is that of the tool in the spindle
abbrev pub tool_named : Front → Option ℤ → Width
tool_named front None = Tool front.mounted
tool_named front (Some n) = if is_zero n then Tool front.mounted else Tool n

abbrev pub width_of : Front → Units → List Word → Code → Result Width Fault
width_of front units words code =
    if is_among tables.BY_DIAMETER code
    then (word_length units bytes.D words >>= λ d. diameter_needed code d)
    else (count bytes.D words >>= λ n. Ok (tool_named front n))

abbrev pub start_of : Front → Units → List Word → Option Code → Result (Option Start) Fault
start_of front units words None = Ok None
start_of front units words (Some code) =
    width_of front units words code >>= λ w. Ok (Some (record { code = code; width = w }))

-- ---- the line

-- the words that neither feed nor move
unfoldable pub modes_of : Known → List Code → List Word → Plan → List Plain
modes_of k line words plan =
    ended (modes_written line words plan.amounts (with_feed k line plan []))

abbrev pub put_together : List Code → Plan → Front → Option Start → PathLine
put_together line plan front start = record {
  front = front;
  force = plan.force;
  motion = plan.first;
  start = start;
  ends = has codes.COMPENSATION_END line;
  stop = code_in codes.STOPS line;
}

unfoldable pub planned : Known → List Code → List Word → Plan → Result (PathLine × List Plain) Fault
planned k line words plan = do
  start ← start_of (front_after k line plan) plan.force.units words (code_in codes.COMPENSATION line)
  Ok (put_together line plan (front_after k line plan) start, modes_of k line words plan)

unfoldable pub line_of :
    Known → Option Path → List Code → List Word → Result (PathLine × List Plain) Fault
line_of k path line words = do
  allowed ← refuse_of (barred path line)
  plan ← line_plan k line words
  planned k line words plan

-- a line, by what it is read by
unfoldable pub path_line : Known → Option Path → List Word → Result (PathLine × List Plain) Fault
path_line k path words = do
  line ← codes_of k.dialect words []
  line_of (without_motion k) path line words
