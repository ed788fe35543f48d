-- The motions and changes of origins that a line makes (LinuxCNC's documentation, "G-codes": G0,
-- G1, G10, G28, G52, G53, G92).
use Rattle.std.specs.Prelude.{ℤ, Bool, true, false, not, ◌&&◌, ◌||◌, List, Option}
use Rattle.std.specs.Prelude.{Some, None, Result, Ok, Err, is_some, is_none}
use Rattle.std.specs.Prelude.{if◌then◌else◌}
use Rattle.ngc_fixed_length.specs.Signed.{is_zero}
use Rattle.ngc_fixed_length.specs.declared.modes.FeedMode.{FeedMode}
use Rattle.ngc_fixed_length.specs.declared.modes.FeedMode.TheVariants.{PerMinute, InverseTime}
use Rattle.ngc_fixed_length.specs.declared.modes.Turn.TheVariants.{Clockwise, Counterclockwise}
use Rattle.ngc_modal_state.specs.declared.code.MotionMode.{MotionMode}
use Rattle.ngc_modal_state.specs.declared.code.MotionMode.TheVariants as motions
use Rattle.ngc_offsets.specs.declared.given.AxisLengths.{AxisLengths}
use Rattle.ngc_dialect_rules.specs.declared.code.Code.{Code}
use Rattle.ngc_dialect_rules.specs.declared.code.Code.TheVariants.{G}
use Rattle.ngc_dialect_rules.specs.declared.plan.Action.{Action}
use Rattle.ngc_dialect_parameters.specs.declared.statement.Word.{Word}
use Rattle.ngc_dialect_rules.specs.declared.codes.TheConstants as codes
use Rattle.ngc_dialect_rules.specs.declared.fault.Cause.TheVariants as causes
use Rattle.ngc_dialect_rules.specs.declared.fault.Fault.{Fault}
use Rattle.ngc_dialect_rules.specs.declared.plan.InForce.{InForce}
use Rattle.ngc_dialect_rules.specs.declared.front.Known.{Known}
use Rattle.ngc_dialect_rules.specs.Codes.{is_code}
use Rattle.ngc_dialect_rules.specs.Faults.{◌>>=◌, about_code}
use Rattle.ngc_dialect_rules.specs.Lengths.{axis_lengths, moved_length}
use Rattle.ngc_dialect_rules.specs.Moves.{is_incremental}
use Rattle.ngc_dialect_rules.specs.Tables.{has, is_among}
use Rattle.ngc_dialect_rules.specs.Bytes as bytes

-- Our own language has no G43.1, so an absolute height has its offset added.
abbrev pub with_length : ℤ → AxisLengths → Result AxisLengths Fault
with_length length axes = do
  z ← moved_length bytes.Z length axes.z
  Ok (record axes { z = z })

-- whether the interpreter's motion mode is this code
abbrev pub is_mode : MotionMode → Code → Bool
is_mode motions.Traverse code = is_code code (G 0)
is_mode motions.Straight code = is_code code (G 10)
is_mode (motions.Arc Clockwise) code = is_code code (G 20)
is_mode (motions.Arc Counterclockwise) code = is_code code (G 30)
is_mode _ code = false

-- G1 and arcs need a feed, and in inverse time F; there each motion may have F
abbrev pub has_no_feed : Option ℤ → Bool
has_no_feed None = true
has_no_feed (Some f) = is_zero f

abbrev pub feed_in : FeedMode → Option ℤ → Option ℤ → Code → Result (Option ℤ) Fault
feed_in InverseTime feed f code =
    if is_among codes.FEED_MOTION code && is_none f then Err (about_code causes.WordMissing code)
    else Ok f
feed_in PerMinute feed f code =
    if is_among codes.FEED_MOTION code && has_no_feed feed
    then Err (about_code causes.FeedZero code)
    else Ok None

-- the code is written unless it is the motion mode; beside G53 and F it always is
abbrev pub written_code : Known → Bool → Option ℤ → Code → Option Code
written_code k is_machine f code =
    if is_machine || is_some f || not (is_mode k.modes.motion code) then Some code else None

-- the lengths of a motion's axis words
abbrev pub motion_lengths : Bool → InForce → AxisLengths → Result AxisLengths Fault
motion_lengths is_machine force axes =
    if is_machine || is_incremental force.distance then Ok axes else with_length force.length axes

abbrev pub no_lengths : AxisLengths
no_lengths = record { x = None; y = None; z = None }

-- a straight motion by its code, lengths and F
abbrev pub motion : Bool → Option Code → AxisLengths → Option ℤ → Action
motion is_machine code axes f = record {
  is_machine = is_machine;
  code = code;
  l = None;
  p = None;
  axes = axes;
  centre = no_lengths;
  f = f;
}

unfoldable pub straight :
    Known → List Code → List Word → InForce → Option ℤ → Code → Result Action Fault
straight k line words force f code = do
  feed ← feed_in force.feed_mode force.feed f code
  axes ← axis_lengths force.units words
  moved ← motion_lengths (has codes.MACHINE_PLACE line) force axes
  Ok (motion (has codes.MACHINE_PLACE line)
      (written_code k (has codes.MACHINE_PLACE line) feed code) moved feed)
