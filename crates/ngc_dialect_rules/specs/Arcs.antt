-- An arc of a line (LinuxCNC's documentation, "G2, G3"): its words go to the crate of arcs, and come
-- back as those of our own language.
use Rattle.std.specs.Prelude.{ℤ, Bool, false, ◌&&◌, List, Option, Some, None}
use Rattle.std.specs.Prelude.{Result, Ok, Err, if◌then◌else◌}
use Rattle.ngc_fixed_length.specs.Places.{zero_point}
use Rattle.ngc_fixed_length.specs.declared.modes.Plane.{Plane}
use Rattle.ngc_fixed_length.specs.declared.modes.Plane.TheVariants.{XY, ZX, YZ}
use Rattle.ngc_fixed_length.specs.declared.modes.Turn.{Turn}
use Rattle.ngc_fixed_length.specs.declared.modes.Turn.TheVariants.{Clockwise, Counterclockwise}
use Rattle.ngc_fixed_length.specs.declared.points.Point3.{Point3}
use Rattle.ngc_fixed_length.specs.declared.units.Units.{Units}
use Rattle.ngc_fixed_length.specs.declared.units.Units.TheVariants.{Millimetres}
use Rattle.ngc_offsets.specs.Offsets.{Offsets}
use Rattle.ngc_offsets.specs.Frames.{origin_of}
use Rattle.ngc_offsets.specs.declared.given.AxisLengths.{AxisLengths}
use Rattle.ngc_dialect_arcs.specs.declared.line.ArcLine.{ArcLine}
use Rattle.ngc_dialect_arcs.specs.declared.refusal.ArcRefusal.{ArcRefusal}
use Rattle.ngc_dialect_arcs.specs.Lines.{plain_axes, plain_offsets, programmed}
use Rattle.ngc_dialect_parameters.specs.declared.statement.Word.{Word}
use Rattle.ngc_dialect_rules.specs.declared.code.Code.{Code}
use Rattle.ngc_dialect_rules.specs.declared.code.Code.TheVariants.{G}
use Rattle.ngc_dialect_rules.specs.declared.codes.TheConstants as codes
use Rattle.ngc_dialect_rules.specs.declared.fault.Cause.TheVariants as causes
use Rattle.ngc_dialect_rules.specs.declared.fault.Fault.{Fault}
use Rattle.ngc_dialect_rules.specs.declared.front.Known.{Known}
use Rattle.ngc_dialect_rules.specs.declared.plan.Action.{Action}
use Rattle.ngc_dialect_rules.specs.declared.plan.InForce.{InForce}
use Rattle.ngc_dialect_rules.specs.Actions.{feed_in, with_length, motion_lengths, written_code}
use Rattle.ngc_dialect_rules.specs.Faults.{◌>>=◌, about_code, refuse_if}
use Rattle.ngc_dialect_rules.specs.Force.{centres_by}
use Rattle.ngc_dialect_rules.specs.Lengths.{axis_lengths, word_length, is_exact}
use Rattle.ngc_dialect_rules.specs.Offsets.{system_after, own_length}
use Rattle.ngc_dialect_rules.specs.Tables.{has, code_in, is_among}
use Rattle.ngc_dialect_rules.specs.Words.{count}
use Rattle.ngc_dialect_rules.specs.Bytes as bytes

-- a refusal of the crate of arcs is about the arc's code
abbrev pub or_refused : {A : Type 0} → Code → Result A ArcRefusal → Result A Fault
or_refused code (Ok a) = Ok a
or_refused code (Err e) = Err (about_code (causes.Arc e) code)

-- ---- where the arc begins

-- the offset of G92 after the line's G92.1, G92.2 or G92.3
abbrev pub axis_offset_by : Offsets → Option Code → Point3
axis_offset_by f None = f.axis_offset
axis_offset_by f (Some code) = if is_among codes.OFFSET_RESTORED code then f.saved else zero_point

-- the current place, in the coordinates of our own language after the line's modes
unfoldable pub place_here : Known → List Code → List Word → Code → Result Point3 Fault
place_here k line words code = do
  tool ← own_length k line words
  or_refused code (programmed k.place (origin_of k.frames (system_after k line))
      (axis_offset_by k.frames (code_in codes.OFFSET_CHANGES line)) tool)

-- ---- the words

abbrev pub plane_by : Plane → Option Code → Plane
plane_by before None = before
plane_by before (Some code) =
    if is_among codes.PLANE_ZX code then ZX else (if is_among codes.PLANE_YZ code then YZ else XY)

abbrev pub turn_of : Code → Turn
turn_of code = if is_among codes.COUNTERCLOCKWISE code then Counterclockwise else Clockwise

-- an absolute height has the offset of G43.1 added, as Z has
abbrev pub centre_in : Bool → InForce → AxisLengths → Result AxisLengths Fault
centre_in absolute force lengths =
    if absolute then with_length force.length lengths else Ok lengths

-- I, J and K
unfoldable pub centre_words : Bool → InForce → List Word → Result AxisLengths Fault
centre_words absolute force words = do
  i ← word_length force.units bytes.I words
  j ← word_length force.units bytes.J words
  k ← word_length force.units bytes.K words
  centre_in absolute force (record { x = i; y = j; z = k })

-- P counts turns, unless it is the dwell's
abbrev pub turn_word : List Code → List Word → Result (Option ℤ) Fault
turn_word line words = if has codes.DWELL line then Ok None else count bytes.P words

abbrev pub is_absolute : Known → List Code → Bool
is_absolute k line = centres_by k.front.absolute_centres (code_in codes.CENTRES line)

unfoldable pub arc_line : Known → List Code → List Word → InForce → Code → Result ArcLine Fault
arc_line k line words force code = do
  axes ← axis_lengths force.units words
  moved ← motion_lengths false force axes
  start ← place_here k line words code
  centre ← centre_words (is_absolute k line) force words
  radius ← word_length force.units bytes.R words
  turns ← turn_word line words
  Ok (record {
    dialect = k.dialect;
    units = force.units;
    plane = plane_by k.modes.plane (code_in codes.PLANES line);
    turn = turn_of code;
    distance = force.distance;
    absolute_centre = is_absolute k line;
    start = start;
    axes = moved;
    offsets = centre;
    radius = radius;
    turns = turns;
  })

-- ---- the motion

-- if the units in force can't write the arc, it is one of a line in millimetres
abbrev pub offsets_for : Units → Code → ArcLine → AxisLengths → Result AxisLengths Fault
offsets_for units code a offsets =
    if is_exact units (plain_axes a) && is_exact units offsets then Ok offsets
    else or_refused code (plain_offsets Millimetres a)

abbrev pub offsets_of : Units → Code → ArcLine → Result AxisLengths Fault
offsets_of units code a = do
  offsets ← or_refused code (plain_offsets units a)
  offsets_for units code a offsets

abbrev pub arc_motion : Option Code → AxisLengths → AxisLengths → Option ℤ → Action
arc_motion code axes centre f = record {
  is_machine = false;
  code = code;
  l = None;
  p = None;
  axes = axes;
  centre = centre;
  f = f;
}

unfoldable pub arc :
    Known → List Code → List Word → InForce → Option ℤ → Code → Result Action Fault
arc k line words force f code = do
  there ← refuse_if (has codes.MACHINE_PLACE line) (about_code causes.NotStraight (G 530))
  feed ← feed_in force.feed_mode force.feed f code
  a ← arc_line k line words force code
  centre ← offsets_of force.units code a
  Ok (arc_motion (written_code k false feed code) (plain_axes a) centre feed)
