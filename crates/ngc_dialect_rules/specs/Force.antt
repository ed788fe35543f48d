-- What is in force after a line's modes: they hold for the line's own motion (NISTIR 6556, 3.8).
-- The feed is LinuxCNC's ("G93, G94: Feed rate mode"): a change
-- of the feed mode takes the feed out there.
use Rattle.std.specs.Prelude.{ℤ, pos, Bool, false, not, ◌&&◌, ◌||◌, List, Option, Some}
use Rattle.std.specs.Prelude.{None, Result, Ok, Err}
use Rattle.std.specs.Prelude.{if◌then◌else◌}
use Rattle.ngc_fixed_length.specs.Signed.{is_zero}
use Rattle.ngc_fixed_length.specs.declared.units.Units.{Units}
use Rattle.ngc_fixed_length.specs.declared.units.Units.TheVariants.{Millimetres, Inches}
use Rattle.ngc_fixed_length.specs.declared.modes.Distance.{Distance}
use Rattle.ngc_fixed_length.specs.declared.modes.Distance.TheVariants.{Absolute, Incremental}
use Rattle.ngc_fixed_length.specs.declared.modes.FeedMode.{FeedMode}
use Rattle.ngc_fixed_length.specs.declared.modes.FeedMode.TheVariants.{PerMinute, InverseTime}
use Rattle.ngc_fixed_length.specs.declared.modes.RetractMode.{RetractMode}
use Rattle.ngc_fixed_length.specs.declared.modes.RetractMode.TheVariants.{Series, Retract}
use Rattle.ngc_dialect_parameters.specs.declared.statement.Word.{Word}
use Rattle.ngc_dialect_rules.specs.declared.code.Code.{Code}
use Rattle.ngc_dialect_rules.specs.declared.code.Code.TheVariants.{G}
use Rattle.ngc_dialect_rules.specs.declared.codes.TheConstants as codes
use Rattle.ngc_dialect_rules.specs.declared.fault.Cause.TheVariants as causes
use Rattle.ngc_dialect_rules.specs.declared.fault.Fault.{Fault}
use Rattle.ngc_dialect_rules.specs.declared.plan.InForce.{InForce}
use Rattle.ngc_dialect_rules.specs.declared.front.Known.{Known}
use Rattle.ngc_dialect_rules.specs.Faults.{◌>>=◌, about_code}
use Rattle.ngc_dialect_rules.specs.Lengths.{length_in}
use Rattle.ngc_dialect_rules.specs.Tables.{has, code_in, is_among, is_linuxcnc}
use Rattle.ngc_dialect_rules.specs.Words.{value_of}
use Rattle.ngc_dialect_rules.specs.Bytes as bytes

abbrev pub units_by : Units → Option Code → Units
units_by before None = before
units_by before (Some code) = if is_among codes.INCHES code then Inches else Millimetres

abbrev pub distance_by : Distance → Option Code → Distance
distance_by before None = before
distance_by before (Some code) = if is_among codes.INCREMENTAL code then Incremental else Absolute

abbrev pub feed_mode_by : FeedMode → Option Code → FeedMode
feed_mode_by before None = before
feed_mode_by before (Some code) =
    if is_among codes.INVERSE_TIME code then InverseTime else PerMinute

abbrev pub retract_by : RetractMode → Option Code → RetractMode
retract_by before None = before
retract_by before (Some code) = if is_among codes.SERIES_RETRACT code then Series else Retract

abbrev pub centres_by : Bool → Option Code → Bool
centres_by before None = before
centres_by before (Some code) = is_among codes.ABSOLUTE_CENTRES code

-- the feed: F sets it, and in LinuxCNC G93 and G94 take it out
abbrev pub feed_by : Known → List Code → Option ℤ → Option ℤ
feed_by k line (Some f) = Some f
feed_by k line None =
    if is_linuxcnc k.dialect && has codes.FEED_MODES line then None else k.front.feed

-- X or Y beside G43.1, except at 0
abbrev pub is_moved : Option ℤ → Bool
is_moved None = false
is_moved (Some v) = not (is_zero v)

-- the tool length offset of G43.1 Z; G43 and G49 end it
abbrev pub given_length : Known → Units → Option ℤ → Result ℤ Fault
given_length k units None = Ok k.front.length
given_length k units (Some z) = length_in units bytes.Z z

abbrev pub length_on_z : Known → Units → List Word → Result ℤ Fault
length_on_z k units words =
    if is_moved (value_of bytes.X words) || is_moved (value_of bytes.Y words)
    then Err (about_code causes.LengthOnOtherAxis (G 431))
    else given_length k units (value_of bytes.Z words)

unfoldable pub length_after : Known → Units → List Code → List Word → Result ℤ Fault
length_after k units line words =
    if has codes.WORD_LENGTH line then length_on_z k units words else (
    if has codes.LENGTHS line then Ok (pos 0) else Ok k.front.length)

abbrev pub units_after : Known → List Code → Units
units_after k line = units_by k.modes.units (code_in codes.UNITS line)

unfoldable pub force_of : Known → List Code → List Word → Option ℤ → Result InForce Fault
force_of k line words f = do
  length ← length_after k (units_after k line) line words
  Ok (record {
    units = units_after k line;
    distance = distance_by k.modes.distance (code_in codes.DISTANCES line);
    feed_mode = feed_mode_by k.modes.feed_mode (code_in codes.FEED_MODES line);
    feed = feed_by k line f;
    length = length;
  })
