-- The holes of a line that has a cycle (LinuxCNC's documentation, "Canned cycles"; the other
-- controls' likewise).
use Rattle.std.specs.Prelude.{ℕ, ◌/◌, nat_lt, nat_le, ◌&&◌, ◌||◌, ℤ, pos, unsigned_abs, Bool, true, false}
use Rattle.std.specs.Prelude.{List, Option, Some, None, is_some, Result, Ok, Err, if◌then◌else◌}
use Rattle.ngc_fixed_length.specs.Limits.{MILLION}
use Rattle.ngc_fixed_length.specs.Places.{in_plane}
use Rattle.ngc_fixed_length.specs.declared.modes.Distance.{Distance}
use Rattle.ngc_fixed_length.specs.declared.modes.Distance.TheVariants.{Absolute, Incremental}
use Rattle.ngc_fixed_length.specs.declared.modes.FeedMode.{FeedMode}
use Rattle.ngc_fixed_length.specs.declared.modes.FeedMode.TheVariants.{PerMinute, InverseTime}
use Rattle.ngc_offsets.specs.declared.fault.Axis.{Axis}
use Rattle.ngc_canned_cycles.specs.declared.cycle.CycleMove.{CycleMove}
use Rattle.ngc_dialect_cycles.specs.declared.line.CycleLine.{CycleLine}
use Rattle.ngc_dialect_cycles.specs.declared.line.HoleKind.{HoleKind}
use Rattle.ngc_dialect_cycles.specs.declared.line.HoleKind.TheVariants as kinds
use Rattle.ngc_dialect_cycles.specs.declared.line.Pecks.{Pecks}
use Rattle.ngc_dialect_cycles.specs.declared.line.Series.{Series}
use Rattle.ngc_dialect_cycles.specs.declared.refusal.CycleRefusal.{CycleRefusal}
use Rattle.ngc_dialect_cycles.specs.declared.refusal.CycleRefusal.TheVariants as refusals
use Rattle.ngc_dialect_cycles.specs.Refusals.{cycle}
use Rattle.ngc_dialect_names.specs.declared.dialect.Dialect.{Dialect}
use Rattle.ngc_dialect_names.specs.declared.dialect.Dialect.TheVariants as dialects
use Rattle.ngc_dialect_parameters.specs.declared.statement.Word.{Word}
use Rattle.ngc_dialect_rules.specs.declared.code.Code.{Code}
use Rattle.ngc_dialect_rules.specs.declared.code.Code.TheVariants.{G}
use Rattle.ngc_dialect_rules.specs.declared.fault.Cause.TheVariants as causes
use Rattle.ngc_dialect_rules.specs.declared.fault.LeftOut.TheVariants as left_out
use Rattle.ngc_dialect_rules.specs.declared.fault.Fault.{Fault}
use Rattle.ngc_dialect_rules.specs.declared.front.KeptSeries.{KeptSeries}
use Rattle.ngc_dialect_rules.specs.declared.front.Known.{Known}
use Rattle.ngc_dialect_rules.specs.Actions.{has_no_feed}
use Rattle.ngc_dialect_rules.specs.Bytes as bytes
use Rattle.ngc_dialect_rules.specs.Codes.{is_code}
use Rattle.ngc_dialect_rules.specs.Faults.{◌>>=◌, about_code, about_letter, refuse_of}
use Rattle.ngc_dialect_rules.specs.Lengths.{length_in}
use Rattle.ngc_dialect_rules.specs.Tables.{is_fanuc, is_linuxcnc}
use Rattle.ngc_dialect_rules.specs.Words.{count, has_letter, value_of}
use Rattle.ngc_dialect_drilling.specs.declared.holes.OnAxis.{OnAxis}
use Rattle.ngc_dialect_drilling.specs.Heights.{added, cycle_height, machine_height}
use Rattle.ngc_dialect_drilling.specs.Kept.{kept_after}
use Rattle.ngc_dialect_drilling.specs.Places.{whole_shift, depth_letter, letter_of, u_axis, v_axis}

-- After a peck of G73 and before the next one of G83 the tool is 0.254 mm above the depth reached.
-- With Mach3 and Fanuc a setting of the control decides that of G73.
abbrev pub BACK : ℤ
BACK = pos 254000

-- the other controls take 0 for a missing P
abbrev pub needed_dwell : Dialect → Code → Option ℤ → Result ℤ Fault
needed_dwell d code (Some p) = Ok p
needed_dwell d code None =
    if is_linuxcnc d then Err (about_code causes.WordMissing code) else Ok (pos 0)

abbrev pub needed_pecks : Known → Code → Option ℤ → Result Pecks Fault
needed_pecks k code None = Err (about_code causes.WordMissing code)
needed_pecks k code (Some q) = do
  depth ← length_in k.modes.units bytes.Q q
  Ok (record { depth = depth; back = BACK })

abbrev pub is_set_by_control : Dialect → Bool
is_set_by_control dialects.Mach3 = true
is_set_by_control dialects.Fanuc = true
is_set_by_control _ = false

-- G83 and G73
abbrev pub with_pecks : Dialect → Code → Pecks → Result HoleKind Fault
with_pecks d code pecks =
    if is_code code (G 830) then Ok (kinds.Peck pecks) else (
    if is_set_by_control d then Err (about_code (causes.LeftOut left_out.ChipBreaking) code)
    else Ok (kinds.BreakChips pecks))

abbrev pub pecking : Known → KeptSeries → Result HoleKind Fault
pecking k kept = do
  pecks ← needed_pecks k kept.code kept.peck
  with_pecks k.dialect kept.code pecks

-- G82, G86 and G89
abbrev pub with_dwell : Code → ℤ → HoleKind
with_dwell code p =
    if is_code code (G 820) then kinds.DrillWithDwell p else (
    if is_code code (G 860) then kinds.BoreWithStop p else kinds.BoreWithDwell p)

abbrev pub dwelling : Dialect → KeptSeries → Result HoleKind Fault
dwelling d kept = do
  p ← needed_dwell d kept.code kept.dwell
  Ok (with_dwell kept.code p)

-- how a hole is made
unfoldable pub kind_of : Known → KeptSeries → Result HoleKind Fault
kind_of k kept =
    if is_code kept.code (G 810) then Ok kinds.Drill else (
    if is_code kept.code (G 850) then Ok kinds.Bore else (
    if is_code kept.code (G 730) || is_code kept.code (G 830) then pecking k kept
    else dwelling k.dialect kept))

-- what the series keeps, as lengths in force
unfoldable pub series_of : Known → KeptSeries → Result Series Fault
series_of k kept = do
  kind ← kind_of k kept
  level ← machine_height k (depth_letter k.modes.plane) kept.level
  retract ← cycle_height k bytes.R kept.retract
  depth ← cycle_height k (depth_letter k.modes.plane) kept.depth
  Ok (record { kind = kind; level = level; retract = retract; depth = depth })

-- ---- the line

-- Fanuc counts holes by K, the others by L
abbrev pub repeat_letter : Dialect → List Word → ℕ
repeat_letter d words = if is_fanuc d && has_letter bytes.K words then bytes.K else bytes.L

-- Fanuc takes 0, by which only the words are kept. The upper bound is our own.
abbrev pub is_count : Dialect → ℕ → Bool
is_count d n = nat_le n 9999 && (nat_lt 0 n || is_fanuc d)

-- one hole without the word
abbrev pub holes_counted : Dialect → ℕ → ℕ → Result ℕ Fault
holes_counted d letter n =
    if is_count d n then Ok n else Err (about_letter causes.HoleCount letter)

abbrev pub number_of_holes : Dialect → ℕ → Option ℤ → Result ℕ Fault
number_of_holes d letter None = Ok 1
number_of_holes d letter (Some v) = holes_counted d letter (unsigned_abs v / MILLION)

abbrev pub repeats_of : Dialect → List Word → Result ℕ Fault
repeats_of d words = do
  given ← count (repeat_letter d words) words
  number_of_holes d (repeat_letter d words) given

-- a coordinate of the first hole, and the distance to that of the next one; without a word all
-- holes have that of the tool
abbrev pub along_by : Distance → ℕ → ℤ → ℤ → ℤ → Result OnAxis Fault
along_by Absolute letter place base length = do
  first ← added letter base length
  Ok (record { first = first; step = pos 0 })
along_by Incremental letter place base length = do
  first ← added letter place length
  Ok (record { first = first; step = length })

abbrev pub along : Known → Axis → ℤ → Option ℤ → Result OnAxis Fault
along k axis place None = Ok (record { first = place; step = pos 0 })
along k axis place (Some v) = do
  length ← length_in k.modes.units (letter_of axis) v
  along_by k.modes.distance (letter_of axis) place (whole_shift k axis) length

abbrev pub coordinates : Known → Axis → ℤ → List Word → Result OnAxis Fault
coordinates k axis place words = along k axis place (value_of (letter_of axis) words)

unfoldable pub line_of : Known → List Word → Result CycleLine Fault
line_of k words = do
  repeats ← repeats_of k.dialect words
  u ← coordinates k (u_axis k.modes.plane) (in_plane k.modes.plane k.place).u words
  v ← coordinates k (v_axis k.modes.plane) (in_plane k.modes.plane k.place).v words
  Ok (record {
    plane = k.modes.plane;
    distance = k.modes.distance;
    clear = k.front.retract;
    place = k.place;
    first = record { u = u.first; v = v.first };
    step = record { u = u.step; v = v.step };
    repeats = repeats;
    turning = is_some k.front.spindle;
  })

-- ---- the cycle

-- a cycle needs a feed, per minute
abbrev pub feed_fault_in : FeedMode → Known → Code → Option Fault
feed_fault_in InverseTime k code = Some (about_code causes.CycleInInverseTime code)
feed_fault_in PerMinute k code =
    if has_no_feed k.front.feed then Some (about_code causes.FeedZero code) else None

abbrev pub feed_fault : Known → Code → Option Fault
feed_fault k code = feed_fault_in k.modes.feed_mode k code

abbrev pub fault_of : Code → CycleRefusal → Fault
fault_of code refusals.RetractBelowBottom = about_letter causes.RetractBelowDepth bytes.R
fault_of code refusals.BadPeck = about_letter causes.PeckNotAboveZero bytes.Q
fault_of code refusals.NegativeDwell = about_letter causes.NegativeDwell bytes.P
fault_of code refusals.SpindleNotTurning = about_code causes.SpindleOff code
fault_of code refusals.TooFar = about_code causes.CycleTooFar code

abbrev pub refused_by : Code → Result (List CycleMove) CycleRefusal → Result (List CycleMove) Fault
refused_by code (Ok moves) = Ok moves
refused_by code (Err refusal) = Err (fault_of code refusal)

abbrev pub moves_of : Known → KeptSeries → List Word → Result (List CycleMove) Fault
moves_of k kept words = do
  series ← series_of k kept
  line ← line_of k words
  refused_by kept.code (cycle series line)

-- what the series keeps after the line, and the line's moves
unfoldable pub cycle_of : Known → Code → List Word → Result (KeptSeries × List CycleMove) Fault
cycle_of k code words = do
  fed ← refuse_of (feed_fault k code)
  kept ← kept_after k code words
  moves ← moves_of k kept words
  Ok (kept, moves)
