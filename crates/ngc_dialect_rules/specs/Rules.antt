-- A line of another control as plain lines of our own language, in LinuxCNC's order of execution
-- (LinuxCNC's documentation, "Order of execution").
use Rattle.std.specs.Prelude.{ℕ, ℤ, Bool, true, false, not, ◌&&◌, List, [], ◌∷◌, Option}
use Rattle.std.specs.Prelude.{Some, None, Result, Ok, Err}
use Rattle.std.specs.Prelude.{is_some, if◌then◌else◌}
use Rattle.ngc_fixed_length.specs.declared.units.Units.{Units}
use Rattle.ngc_fixed_length.specs.declared.units.Units.TheVariants.{Millimetres, Inches}
use Rattle.ngc_fixed_length.specs.declared.modes.FeedMode.{FeedMode}
use Rattle.ngc_fixed_length.specs.declared.modes.FeedMode.TheVariants.{PerMinute, InverseTime}
use Rattle.ngc_fixed_length.specs.declared.modes.Turn.{Turn}
use Rattle.ngc_fixed_length.specs.declared.modes.Turn.TheVariants.{Clockwise, Counterclockwise}
use Rattle.ngc_fixed_length.specs.declared.points.Point3.{Point3}
use Rattle.ngc_line_reader.specs.declared.letter.Letter.TheVariants as letters
use Rattle.ngc_line_reader.specs.declared.word.Word.{Word as PlainWord}
use Rattle.ngc_modal_state.specs.declared.code.MotionMode.{MotionMode}
use Rattle.ngc_modal_state.specs.declared.code.MotionMode.TheVariants as motions
use Rattle.ngc_dialect_rules.specs.declared.code.Code.{Code}
use Rattle.ngc_dialect_rules.specs.declared.code.Code.TheVariants.{G, M}
use Rattle.ngc_dialect_rules.specs.declared.plan.Action.{Action}
use Rattle.ngc_dialect_parameters.specs.declared.statement.Word.{Word}
use Rattle.ngc_dialect_rules.specs.declared.codes.TheConstants as codes
use Rattle.ngc_dialect_rules.specs.declared.fault.Cause.TheVariants as causes
use Rattle.ngc_dialect_rules.specs.declared.fault.Fault.{Fault}
use Rattle.ngc_dialect_rules.specs.declared.plan.InForce.{InForce}
use Rattle.ngc_dialect_names.specs.declared.dialect.Dialect.{Dialect}
use Rattle.ngc_dialect_rules.specs.declared.front.Front.{Front}
use Rattle.ngc_dialect_rules.specs.declared.front.KeptSeries.{KeptSeries}
use Rattle.ngc_dialect_rules.specs.declared.front.Known.{Known}
use Rattle.ngc_dialect_rules.specs.declared.plain.Plain.{Plain}
use Rattle.ngc_dialect_rules.specs.declared.plan.LineCycle.{LineCycle}
use Rattle.ngc_dialect_rules.specs.declared.plan.LineResult.{LineResult}
use Rattle.ngc_dialect_rules.specs.declared.plan.Plan.{Plan}
use Rattle.ngc_dialect_rules.specs.declared.plan.Amounts.{Amounts}
use Rattle.ngc_dialect_rules.specs.Actions.{straight, is_mode, has_no_feed}
use Rattle.ngc_dialect_rules.specs.Arcs.{arc}
use Rattle.ngc_dialect_rules.specs.Codes.{is_code}
use Rattle.ngc_dialect_rules.specs.Faults.{◌>>=◌, about_code, about_letter, refuse_of}
use Rattle.ngc_dialect_rules.specs.Force.{force_of, retract_by, centres_by}
use Rattle.ngc_dialect_rules.specs.Moves.{motion_of, machine_place_fault, idle_fault}
use Rattle.ngc_dialect_rules.specs.Offsets.{set_origin, set_offset, local_offset, way_home, go_home}
use Rattle.ngc_dialect_rules.specs.Plain.{a_code, a_word, with_words, with_action, ended}
use Rattle.ngc_dialect_rules.specs.Tables.{has, code_in, is_among, is_linuxcnc}
use Rattle.ngc_dialect_rules.specs.Amounts.{amounts_of, selected_after, mounted_after}
use Rattle.ngc_dialect_rules.specs.Words.{codes_of, repeated, refused_word, has_letter}
use Rattle.ngc_dialect_rules.specs.Bytes as bytes

-- ---- feed, spindle, coolant and dwell

-- F of a feed per minute; in inverse time it belongs to the motion
abbrev pub minute_feed : FeedMode → Option ℤ → Option ℤ
minute_feed PerMinute f = f
minute_feed InverseTime f = None

abbrev pub same_units : Units → Units → Bool
same_units Millimetres Millimetres = true
same_units Inches Inches = true
same_units _ _ = false

-- in LinuxCNC F counts in the units before the line, so it has a line of its own if they change
abbrev pub is_feed_apart : Known → Plan → Bool
is_feed_apart k plan =
    is_linuxcnc k.dialect && is_some (minute_feed plan.force.feed_mode plan.amounts.feed)
    && not (same_units k.modes.units plan.force.units)

abbrev pub feed_words : List Code → Plan → List (Option PlainWord)
feed_words line plan =
    a_code (code_in codes.FEED_MODES line)
    ∷ a_word letters.F (minute_feed plan.force.feed_mode plan.amounts.feed) ∷ []

unfoldable pub with_feed : Known → List Code → Plan → List Plain → List Plain
with_feed k line plan ps =
    if is_feed_apart k plan then ended (with_words (feed_words line plan) ps)
    else with_words (feed_words line plan) ps

abbrev pub machine_words : List Code → Amounts → List (Option PlainWord)
machine_words line amounts =
    a_word letters.S amounts.speed ∷ a_word letters.T amounts.tool
    ∷ a_code (code_in codes.TOOL_CHANGE line)
    ∷ a_code (code_in codes.SPINDLE line) ∷ a_code (code_in codes.COOLANT line)
    ∷ a_code (code_in codes.OVERRIDES line)
    ∷ a_code (code_in codes.DWELL line) ∷ a_word letters.P amounts.dwell ∷ []

-- ---- modes

abbrev pub units_code : Option Code → Option Code
units_code None = None
units_code (Some code) = Some (if is_among codes.INCHES code then G 200 else G 210)

-- our own language has no G43.1: the front keeps its offset, and the interpreter has none
abbrev pub length_code : List Word → Option Code → Option Code
length_code words None = None
length_code words (Some code) =
    if is_among codes.TABLE_LENGTHS code then Some (G 430) else (
    if is_among codes.WORD_LENGTH code && not (has_letter bytes.Z words) then None
    else Some (G 490))

abbrev pub mode_words : List Code → List Word → Amounts → List (Option PlainWord)
mode_words line words amounts =
    a_code (code_in codes.PLANES line) ∷ a_code (units_code (code_in codes.UNITS line))
    ∷ a_code (code_in codes.COMPENSATION_END line)
    ∷ a_code (length_code words (code_in codes.LENGTHS line))
    ∷ a_word letters.H amounts.offset ∷ a_code (code_in codes.SYSTEMS line)
    ∷ a_code (code_in codes.PATHS line)
    ∷ a_code (code_in codes.DISTANCES line) ∷ a_code (code_in codes.OFFSET_CHANGES line) ∷ []

-- ---- origins and motions

abbrev pub some_action : Result Action Fault → Result (Option Action) Fault
some_action r = r >>= λ a. Ok (Some a)

-- a canned cycle has moves of its own, and none in machine coordinates
abbrev pub no_action : List Code → Result (Option Action) Fault
no_action line =
    if has codes.MACHINE_PLACE line then Err (about_code causes.NotStraight (G 530)) else Ok None

abbrev pub motion_by :
    Known → List Code → List Word → InForce → Option ℤ → Option Code → Result (Option Action) Fault
motion_by k line words force f None = Ok None
motion_by k line words force f (Some code) =
    if is_among codes.ARCS code then some_action (arc k line words force f code) else (
    if is_among codes.CYCLES code then no_action line
    else some_action (straight k line words force f code))

unfoldable pub first_action :
    Known → List Code → List Word → InForce → Option ℤ → Option Code → Result (Option Action) Fault
first_action k line words force f moves =
    if has codes.SETTING line then some_action (set_origin k line words force) else (
    if has codes.OFFSET line then some_action (set_offset k line words force) else (
    if has codes.LOCAL_OFFSET line then some_action (local_offset k line words force) else (
    if has codes.HOMES line then way_home k line words force
    else motion_by k line words force f moves)))

abbrev pub second_action : Known → List Word → Option Code → Option Action
second_action k words None = None
second_action k words (Some home) = Some (go_home k words home)

-- LinuxCNC has no arc without words. Another motion code without a motion, and G80, are written if they change the interpreter's motion
-- mode; after a way home that is G0
abbrev pub mode_then : Known → List Code → MotionMode
mode_then k line = if has codes.HOMES line then motions.Traverse else k.modes.motion

abbrev pub is_per_minute : FeedMode → Bool
is_per_minute PerMinute = true
is_per_minute InverseTime = false

-- A cycle's code is never written, since its moves are. LinuxCNC refuses it without axis words.
abbrev pub lone_cycle : Dialect → Code → Result (Option Code) Fault
lone_cycle d code = if is_linuxcnc d then Err (about_code causes.WordMissing code) else Ok None

abbrev pub lone_code : Known → List Code → InForce → Code → Result (Option Code) Fault
lone_code k line force code =
    if is_among codes.CYCLES code then lone_cycle k.dialect code else (
    if is_linuxcnc k.dialect && is_among codes.ARCS code
    then Err (about_code causes.WordMissing code) else (
    if is_mode (mode_then k line) code then Ok None else (
    if is_linuxcnc k.dialect && is_among codes.FEED_MOTION code && is_per_minute force.feed_mode
    && has_no_feed force.feed
    then Err (about_code causes.FeedZero code) else Ok (Some code))))

abbrev pub last_code : Known → List Code → InForce → Option Code → Result (Option Code) Fault
last_code k line force None = Ok (if has codes.MOTION_END line then Some (G 800) else None)
last_code k line force (Some code) = lone_code k line force code

abbrev pub code_after : Known → List Code → InForce → Option Code → Result (Option Code) Fault
code_after k line force (Some moves) = Ok None
code_after k line force None = last_code k line force (code_in codes.MOTIONS line)

-- the canned cycle of a line, by the code of its motion
abbrev pub cycle_by : List Code → Option Code → Option LineCycle
cycle_by line None = None
cycle_by line (Some code) =
    if is_among codes.CYCLES code
    then Some (record { code = code; stop = code_in codes.STOPS line })
    else None

-- a line's stop; that of a cycle's line follows the cycle's moves
abbrev pub last_stop : List Code → Option LineCycle → Option Code
last_stop line None = code_in codes.STOPS line
last_stop line (Some cycle) = None

abbrev pub last_words : List Code → Plan → List (Option PlainWord)
last_words line plan = a_code plan.code ∷ a_code (last_stop line plan.cycle) ∷ []

-- ---- the line

unfoldable pub plan_of : Known → List Code → List Word → Result Plan Fault
plan_of k line words = do
  amounts ← amounts_of k line words
  force ← force_of k line words amounts.feed
  moves ← motion_of k line words
  there ← refuse_of (machine_place_fault k line force)
  used ← refuse_of (idle_fault k.dialect line moves words)
  first ← first_action k line words force amounts.feed moves
  code ← code_after k line force moves
  Ok (record {
    amounts = amounts;
    force = force;
    first = first;
    second = second_action k words (code_in codes.HOMES line);
    code = code;
    cycle = cycle_by line moves;
  })

abbrev pub with_some_action : Units → Option Action → List Plain → List Plain
with_some_action units None ps = ps
with_some_action units (Some a) ps = with_action units a ps

unfoldable pub modes_written : List Code → List Word → Amounts → List Plain → List Plain
modes_written line words amounts ps =
    with_words (mode_words line words amounts) (with_words (machine_words line amounts) ps)

unfoldable pub motions_written : List Code → Plan → List Plain → List Plain
motions_written line plan ps =
    ended (with_words (last_words line plan)
    (with_some_action plan.force.units plan.second (with_some_action plan.force.units plan.first ps)))

unfoldable pub written : Known → List Code → List Word → Plan → List Plain
written k line words plan =
    motions_written line plan (modes_written line words plan.amounts (with_feed k line plan []))

-- what the dialect knows after the line
abbrev pub motion_after : Option Code → List Code → Option Code → Option Code
motion_after before line (Some code) = Some code
motion_after before line None = if has codes.MOTION_END line then None else before

-- a motion code that isn't a cycle's ends the series of cycles, and so does G80
abbrev pub series_goes_on : List Code → Option Code → Bool
series_goes_on line None = not (has codes.MOTION_END line)
series_goes_on line (Some code) = is_among codes.CYCLES code

abbrev pub series_after : Option KeptSeries → List Code → Option Code → Option KeptSeries
series_after before line code = if series_goes_on line code then before else None

-- the spindle's direction; M6 leaves it off
abbrev pub turn_of : Code → Option Turn
turn_of code =
    if is_code code (M 3) then Some Clockwise else (
    if is_code code (M 4) then Some Counterclockwise else None)

abbrev pub spindle_after : Option Turn → List Code → Option Code → Option Turn
spindle_after before line (Some code) = turn_of code
spindle_after before line None = if has codes.TOOL_CHANGE line then None else before

abbrev pub stored : Code → Point3 → Point3 → Option Code → Point3
stored home before place None = before
stored home before place (Some code) = if is_code code home then place else before

unfoldable pub front_after : Known → List Code → Plan → Front
front_after k line plan = record {
  motion = motion_after k.front.motion line (code_in codes.MOTIONS line);
  retract = retract_by k.front.retract (code_in codes.RETRACTS line);
  absolute_centres = centres_by k.front.absolute_centres (code_in codes.CENTRES line);
  feed = plan.force.feed;
  length = plan.force.length;
  home28 = stored (G 281) k.front.home28 k.place (code_in codes.HOME_STORES line);
  home30 = stored (G 301) k.front.home30 k.place (code_in codes.HOME_STORES line);
  selected = selected_after k.front plan.amounts.tool;
  mounted = mounted_after k.front line plan.amounts.tool;
  spindle = spindle_after k.front.spindle line (code_in codes.SPINDLE line);
  series = series_after k.front.series line (code_in codes.MOTIONS line);
}

-- what a line does, besides its plain lines
abbrev pub result_of : Known → List Code → Plan → LineResult
result_of k line plan = record {
  front = front_after k line plan;
  cycle = plan.cycle;
  compensation = code_in codes.COMPENSATION line;
}

abbrev pub letter_fault : Option ℕ → Option Fault
letter_fault None = None
letter_fault (Some letter) = Some (about_letter causes.LetterTwice letter)

-- what a line by its codes and words becomes, before it is written
unfoldable pub line_plan : Known → List Code → List Word → Result Plan Fault
line_plan k line words = do
  once ← refuse_of (letter_fault (repeated words))
  taken ← refuse_of (refused_word k.dialect line words)
  plan_of k line words

unfoldable pub lines_of : Known → List Code → List Word → Result (LineResult × List Plain) Fault
lines_of k line words = do
  plan ← line_plan k line words
  Ok (result_of k line plan, written k line words plan)

unfoldable pub plain_lines : Known → List Word → Result (LineResult × List Plain) Fault
plain_lines k words = do
  line ← codes_of k.dialect words []
  lines_of k line words
