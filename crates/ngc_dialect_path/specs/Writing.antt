-- The tool's moves as plain lines, by what our own interpreter knows before them.
use Rattle.std.specs.Prelude.{ℤ, ◌-ℤ◌, Bool, false, ◌&&◌, List, [], ◌∷◌, ◌++◌, Option, Some, None, Result, Ok, Err}
use Rattle.std.specs.Prelude.{if◌then◌else◌}
use Rattle.ngc_fixed_length.specs.Places.{at_height, height, in_plane}
use Rattle.ngc_fixed_length.specs.declared.modes.Distance.TheVariants.{Incremental}
use Rattle.ngc_fixed_length.specs.declared.modes.Plane.{Plane}
use Rattle.ngc_fixed_length.specs.declared.modes.Plane.TheVariants.{XY, ZX, YZ}
use Rattle.ngc_fixed_length.specs.declared.modes.Turn.{Turn}
use Rattle.ngc_fixed_length.specs.declared.modes.Turn.TheVariants.{Clockwise, Counterclockwise}
use Rattle.ngc_fixed_length.specs.declared.points.Point2.{Point2}
use Rattle.ngc_fixed_length.specs.declared.points.Point3.{Point3}
use Rattle.ngc_fixed_length.specs.declared.units.Units.{Units}
use Rattle.ngc_fixed_length.specs.declared.units.Units.TheVariants.{Millimetres}
use Rattle.ngc_offsets.specs.declared.given.AxisLengths.{AxisLengths}
use Rattle.ngc_compensation.specs.declared.moves.Motion.{Motion}
use Rattle.ngc_compensation.specs.declared.moves.Motion.TheVariants.{Traverse, Feed, Arc}
use Rattle.ngc_compensation.specs.declared.moves.Move.{Move}
use Rattle.ngc_dialect_arcs.specs.declared.line.ArcLine.{ArcLine}
use Rattle.ngc_dialect_arcs.specs.declared.refusal.ArcRefusal.{ArcRefusal}
use Rattle.ngc_dialect_arcs.specs.Lines.{plain_offsets}
use Rattle.ngc_dialect_rules.specs.declared.code.Code.{Code}
use Rattle.ngc_dialect_rules.specs.declared.code.Code.TheVariants.{G}
use Rattle.ngc_dialect_rules.specs.declared.fault.Cause.TheVariants as causes
use Rattle.ngc_dialect_rules.specs.declared.fault.Fault.{Fault}
use Rattle.ngc_dialect_rules.specs.declared.front.Known.{Known}
use Rattle.ngc_dialect_rules.specs.declared.plain.Plain.{Plain}
use Rattle.ngc_dialect_rules.specs.declared.plain.Plain.TheVariants as plain
use Rattle.ngc_dialect_rules.specs.declared.plan.Action.{Action}
use Rattle.ngc_dialect_rules.specs.Bytes as bytes
use Rattle.ngc_dialect_rules.specs.Actions.{no_lengths}
use Rattle.ngc_dialect_rules.specs.Faults.{◌>>=◌, about_code}
use Rattle.ngc_dialect_rules.specs.Lengths.{is_exact, limited}
use Rattle.ngc_dialect_rules.specs.Plain.{code_word, with_action}
use Rattle.ngc_dialect_path.specs.declared.target.Straight.{Straight}
use Rattle.ngc_dialect_drilling.specs.Moves.{length_to, motion_to, word_to}
use Rattle.ngc_dialect_drilling.specs.Places.{depth_axis, u_axis, v_axis}

-- the lengths of a plane's axes and of the axis perpendicular to it
abbrev pub in_axes : Plane → Option ℤ → Option ℤ → Option ℤ → AxisLengths
in_axes XY u v w = record { x = u; y = v; z = w }
in_axes ZX u v w = record { x = v; y = w; z = u }
in_axes YZ u v w = record { x = w; y = u; z = v }

abbrev pub turn_code : Turn → Code
turn_code Clockwise = G 20
turn_code Counterclockwise = G 30

-- ---- an arc

-- the way in the plane from one point to another
abbrev pub way_to : Plane → Point2 → Point2 → Result AxisLengths Fault
way_to plane here there = do
  u ← limited bytes.I (there.u -ℤ here.u)
  v ← limited bytes.J (there.v -ℤ here.v)
  Ok (in_axes plane (Some u) (Some v) None)

-- X, Y and Z: both words of the plane, and the third if it moves
abbrev pub arc_axes : Known → Point3 → Result AxisLengths Fault
arc_axes k end = do
  u ← word_to k (u_axis k.modes.plane) (in_plane k.modes.plane k.place).u (in_plane k.modes.plane end).u
  v ← word_to k (v_axis k.modes.plane) (in_plane k.modes.plane k.place).v (in_plane k.modes.plane end).v
  w ← length_to k (depth_axis k.modes.plane) (height k.modes.plane k.place) (height k.modes.plane end)
  Ok (in_axes k.modes.plane u v w)

-- the arc as a line whose words count from its start
abbrev pub arc_line : Known → Turn → AxisLengths → AxisLengths → ArcLine
arc_line k turn way offsets = record {
  dialect = k.dialect;
  units = k.modes.units;
  plane = k.modes.plane;
  turn = turn;
  distance = Incremental;
  absolute_centre = false;
  start = k.place;
  axes = way;
  offsets = offsets;
  radius = None;
  turns = None;
}

abbrev pub or_refused : Code → Result AxisLengths ArcRefusal → Result AxisLengths Fault
or_refused code (Ok a) = Ok a
or_refused code (Err e) = Err (about_code (causes.Arc e) code)

-- I, J and K; if inches can't write the arc, they are those of a line in millimetres
abbrev pub offsets_for : Units → Code → AxisLengths → ArcLine → AxisLengths → Result AxisLengths Fault
offsets_for units code axes line offsets =
    if is_exact units axes && is_exact units offsets then Ok offsets
    else or_refused code (plain_offsets Millimetres line)

abbrev pub offsets_of : Units → Code → AxisLengths → ArcLine → Result AxisLengths Fault
offsets_of units code axes line =
    or_refused code (plain_offsets units line) >>= λ offsets. offsets_for units code axes line offsets

abbrev pub arc_to : Known → Turn → Point2 → Point3 → Result Action Fault
arc_to k turn centre end = do
  axes ← arc_axes k end
  way ← way_to k.modes.plane (in_plane k.modes.plane k.place) (in_plane k.modes.plane end)
  offsets ← way_to k.modes.plane (in_plane k.modes.plane k.place) centre
  written ← offsets_of k.modes.units (turn_code turn) axes (arc_line k turn way offsets)
  Ok (record {
    is_machine = false;
    code = Some (turn_code turn);
    l = None;
    p = None;
    axes = axes;
    centre = written;
    f = None;
  })

-- ---- a move

abbrev pub straight_to : Known → Code → Point3 → Result Action Fault
straight_to k code end = motion_to k code end

abbrev pub motion_by : Known → Motion → Point3 → Result Action Fault
motion_by k Traverse end = straight_to k (G 0) end
motion_by k Feed end = straight_to k (G 10) end
motion_by k (Arc turn centre) end = arc_to k turn centre end

abbrev pub motion_of : Known → Move → Result Action Fault
motion_of k m = motion_by k m.motion (at_height k.modes.plane m.end m.height)

-- plain lines with one more motion
abbrev pub with_motion : Known → Result Action Fault → List Plain → Result (List Plain) Fault
with_motion k r ps = r >>= λ a. Ok (with_action k.modes.units a ps)

unfoldable pub with_move : Known → Move → List Plain → Result (List Plain) Fault
with_move k m ps = with_motion k (motion_of k m) ps

unfoldable pub with_straight : Known → Straight → List Plain → Result (List Plain) Fault
with_straight k s ps = with_motion k (straight_to k s.code s.end) ps

-- ---- a motion along the third axis alone

abbrev pub third_alone : Plane → AxisLengths → AxisLengths
third_alone XY a = in_axes XY None None a.z
third_alone ZX a = in_axes ZX None None a.y
third_alone YZ a = in_axes YZ None None a.x

unfoldable pub with_lift : Known → Action → List Plain → List Plain
with_lift k a ps =
    with_action k.modes.units
    (record a { axes = third_alone k.modes.plane a.axes; centre = no_lengths }) ps

abbrev pub with_code_line : Code → List Plain → List Plain
with_code_line code ps = (ps ++ plain.Word (code_word code) ∷ []) ++ plain.End ∷ []
