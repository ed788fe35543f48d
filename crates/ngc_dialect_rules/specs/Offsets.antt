-- Changes of origins, and ways home (LinuxCNC's documentation, "G10 L2", "G10 L20", "G28, G30",
-- "G52", "G92"; that Fanuc's G10 L2 adds in G91 is from its
-- documentation).
use Rattle.std.specs.Prelude.{ℕ, ◌+◌, ◌*◌, ◌==◌, ℤ, pos, ◌+ℤ◌, ◌-ℤ◌, unsigned_abs, Bool}
use Rattle.std.specs.Prelude.{true, false, not, ◌&&◌, ◌||◌}
use Rattle.std.specs.Prelude.{List, Option, Some, None, Result, Ok, Err, if◌then◌else◌}
use Rattle.std.specs.Prelude.{◌/◌}
use Rattle.ngc_fixed_length.specs.Limits.{MILLION}
use Rattle.ngc_fixed_length.specs.Signed.{is_zero, same}
use Rattle.ngc_fixed_length.specs.declared.modes.Distance.{Distance}
use Rattle.ngc_fixed_length.specs.declared.modes.Distance.TheVariants.{Absolute, Incremental}
use Rattle.ngc_fixed_length.specs.declared.modes.System.{System}
use Rattle.ngc_fixed_length.specs.declared.modes.System.TheVariants.{First, Second, Third, Fourth}
use Rattle.ngc_fixed_length.specs.declared.modes.System.TheVariants.{Fifth, Sixth, Seventh, Eighth}
use Rattle.ngc_fixed_length.specs.declared.modes.System.TheVariants.{Ninth}
use Rattle.ngc_fixed_length.specs.declared.points.Point3.{Point3}
use Rattle.ngc_offsets.specs.declared.given.AxisLengths.{AxisLengths}
use Rattle.ngc_offsets.specs.Frames.{index, origin_of}
use Rattle.ngc_dialect_names.specs.declared.dialect.Dialect.{Dialect}
use Rattle.ngc_dialect_rules.specs.declared.code.Code.{Code}
use Rattle.ngc_dialect_rules.specs.declared.code.Code.TheVariants.{G}
use Rattle.ngc_dialect_rules.specs.declared.plan.Action.{Action}
use Rattle.ngc_dialect_parameters.specs.declared.statement.Word.{Word}
use Rattle.ngc_dialect_rules.specs.declared.codes.TheConstants as codes
use Rattle.ngc_dialect_rules.specs.declared.fault.Cause.TheVariants as causes
use Rattle.ngc_dialect_rules.specs.declared.fault.Fault.{Fault}
use Rattle.ngc_dialect_rules.specs.declared.fault.LeftOut.TheVariants as things
use Rattle.ngc_dialect_rules.specs.declared.plan.InForce.{InForce}
use Rattle.ngc_dialect_rules.specs.declared.front.Front.{Front}
use Rattle.ngc_dialect_rules.specs.declared.front.Known.{Known}
use Rattle.ngc_dialect_rules.specs.Actions.{with_length, written_code, motion, motion_lengths, no_lengths}
use Rattle.ngc_dialect_rules.specs.Codes.{is_code}
use Rattle.ngc_dialect_rules.specs.Faults.{◌>>=◌, about_code, about_letter, refuse_if}
use Rattle.ngc_dialect_rules.specs.Force.{is_moved}
use Rattle.ngc_dialect_rules.specs.Lengths.{axis_lengths, moved_length, limited}
use Rattle.ngc_dialect_rules.specs.Moves.{is_incremental, has_axes, counts_turns}
use Rattle.ngc_dialect_rules.specs.Tables.{has, code_in, is_fanuc}
use Rattle.ngc_dialect_rules.specs.Words.{count, value_of, has_letter}
use Rattle.ngc_dialect_rules.specs.Bytes as bytes

-- ---- coordinate systems

abbrev pub system_numbered : ℕ → Option System
system_numbered n =
    if n == 1 then Some First else (if n == 2 then Some Second else (if n == 3 then Some Third else (
    if n == 4 then Some Fourth else (if n == 5 then Some Fifth else (if n == 6 then Some Sixth else (
    if n == 7 then Some Seventh else (if n == 8 then Some Eighth else (if n == 9 then Some Ninth else None))))))))

-- the system of G54 to G59.3
abbrev pub system_of_code : Code → System
system_of_code code =
    if is_code code (G 550) then Second else (if is_code code (G 560) then Third else (
    if is_code code (G 570) then Fourth else (if is_code code (G 580) then Fifth else (
    if is_code code (G 590) then Sixth else (if is_code code (G 591) then Seventh else (
    if is_code code (G 592) then Eighth else (if is_code code (G 593) then Ninth else First)))))))

abbrev pub system_by : System → Option Code → System
system_by before None = before
system_by before (Some code) = system_of_code code

unfoldable pub system_after : Known → List Code → System
system_after k line = system_by k.frames.active (code_in codes.SYSTEMS line)

abbrev pub or_no_system : Option System → Result System Fault
or_no_system (Some system) = Ok system
or_no_system None = Err (about_letter causes.NoSuchSystem bytes.P)

-- P of G10: 0 or no P is the system in force in LinuxCNC's and Grbl's language
abbrev pub system_named : Known → List Code → Option ℤ → Result System Fault
system_named k line None =
    if counts_turns k.dialect then Ok (system_after k line)
    else Err (about_code causes.WordMissing (G 100))
system_named k line (Some p) =
    if is_zero p && counts_turns k.dialect then Ok (system_after k line)
    else or_no_system (system_numbered (unsigned_abs p / MILLION))

-- ---- lengths from the current place

-- how far an axis is from a base and a tool length
unfoldable pub far_from : ℤ → ℤ → ℤ → ℤ
far_from place base tool = (place -ℤ base) -ℤ tool

-- the same less a length
abbrev pub left_on : ℕ → ℤ → ℤ → ℤ → Option ℤ → Result (Option ℤ) Fault
left_on letter place base tool None = Ok None
left_on letter place base tool (Some l) = do
  left ← limited letter (far_from place base tool -ℤ l)
  Ok (Some left)

unfoldable pub left_from : Point3 → Point3 → ℤ → AxisLengths → Result AxisLengths Fault
left_from place base tool axes = do
  x ← left_on bytes.X place.x base.x (pos 0) axes.x
  y ← left_on bytes.Y place.y base.y (pos 0) axes.y
  z ← left_on bytes.Z place.z base.z tool axes.z
  Ok (record { x = x; y = y; z = z })

-- the tool length offset of our own interpreter after the line's G49 or G43.1; that of the line's
-- G43 isn't known
unfoldable pub own_length : Known → List Code → List Word → Result ℤ Fault
own_length k line words =
    if has codes.TABLE_LENGTHS line then Err (about_code causes.LengthBeside (G 430)) else (
    if has codes.LENGTH_END line || (has codes.WORD_LENGTH line && has_letter bytes.Z words)
    then Ok (pos 0)
    else Ok k.frames.length)

-- ---- G10

-- G10 L20: the origin by which the axes are at the lengths
abbrev pub origin_here :
    Known → List Code → List Word → InForce → AxisLengths → Result AxisLengths Fault
origin_here k line words force axes = do
  own ← own_length k line words
  left_from k.place k.frames.axis_offset (own +ℤ force.length) axes

abbrev pub added_origin : Point3 → AxisLengths → Result AxisLengths Fault
added_origin origin axes = do
  x ← moved_length bytes.X origin.x axes.x
  y ← moved_length bytes.Y origin.y axes.y
  z ← moved_length bytes.Z origin.z axes.z
  Ok (record { x = x; y = y; z = z })

-- G10 L2: the lengths are the origin; in Fanuc's G91 they are added to it
abbrev pub origin_given : Known → InForce → System → AxisLengths → Result AxisLengths Fault
origin_given k force system axes =
    if is_fanuc k.dialect && is_incremental force.distance
    then added_origin (origin_of k.frames system) axes
    else Ok axes

-- whether L is 20; it is 2 or 20, and for Fanuc 2
abbrev pub is_here : Dialect → Option ℤ → Result Bool Fault
is_here d None = Err (about_code causes.WordMissing (G 100))
is_here d (Some l) =
    if same l (pos 2000000) then Ok false else (
    if same l (pos 20000000) && not (is_fanuc d) then Ok true
    else Err (about_letter (causes.LeftOut things.ToolTable) bytes.L))

abbrev pub origin_by :
    Known → List Code → List Word → InForce → System → AxisLengths → Bool → Result AxisLengths Fault
origin_by k line words force system axes true = origin_here k line words force axes
origin_by k line words force system axes false = origin_given k force system axes

abbrev pub set_by : System → AxisLengths → Action
set_by system axes = record {
  is_machine = false;
  code = Some (G 100);
  l = Some (pos 2000000);
  p = Some (pos ((index system + 1) * 1000000));
  axes = axes;
  centre = no_lengths;
  f = None;
}

unfoldable pub set_origin : Known → List Code → List Word → InForce → Result Action Fault
set_origin k line words force = do
  l ← count bytes.L words
  here ← is_here k.dialect l
  turned ← refuse_if (is_moved (value_of bytes.R words))
      (about_letter (causes.LeftOut things.Rotation) bytes.R)
  p ← count bytes.P words
  system ← system_named k line p
  axes ← axis_lengths force.units words
  origin ← origin_by k line words force system axes here
  Ok (set_by system origin)

-- ---- G92 and G52

abbrev pub offset_by : AxisLengths → Action
offset_by axes = motion false (Some (G 920)) axes None

-- G92: the axes are at the lengths
unfoldable pub set_offset : Known → List Code → List Word → InForce → Result Action Fault
set_offset k line words force = do
  there ← refuse_if (not (has_axes k.dialect line words)) (about_code causes.WordMissing (G 920))
  axes ← axis_lengths force.units words
  shown ← with_length force.length axes
  Ok (offset_by shown)

-- G52: the offset is the lengths, so it is the G92 that names where the axes are then
unfoldable pub local_offset : Known → List Code → List Word → InForce → Result Action Fault
local_offset k line words force = do
  there ← refuse_if (not (has_axes k.dialect line words)) (about_code causes.WordMissing (G 520))
  axes ← axis_lengths force.units words
  own ← own_length k line words
  place ← left_from k.place (origin_of k.frames (system_after k line)) own axes
  Ok (offset_by place)

-- ---- G28 and G30

abbrev pub home_of : Front → Code → Point3
home_of front code = if is_code code (G 280) then front.home28 else front.home30

-- an axis that a line names; with Fanuc's U, V and W too
abbrev pub is_named : Dialect → ℕ → ℕ → List Word → Bool
is_named d axis other words = has_letter axis words || (is_fanuc d && has_letter other words)

-- a home's coordinate, if the axis goes home: each does if none is named
abbrev pub home_on : Bool → Bool → ℤ → Option ℤ
home_on all named home = if all || named then Some home else None

abbrev pub home_lengths : Bool → Bool → Bool → Point3 → AxisLengths
home_lengths x y z home =
    let all = not (x || y
    || z) in record { x = home_on all x home.x; y = home_on all y home.y; z = home_on all z home.z }

unfoldable pub go_home : Known → List Word → Code → Action
go_home k words code =
    motion true (Some (G 0)) (home_lengths (is_named k.dialect bytes.X bytes.U words)
    (is_named k.dialect bytes.Y bytes.V words) (is_named k.dialect bytes.Z bytes.W words)
    (home_of k.front code)) None

-- the machine coordinate of the program's zero on an axis
unfoldable pub frame_on : ℤ → ℤ → ℤ → ℤ
frame_on origin offset tool = (origin +ℤ offset) +ℤ tool

-- whether a length leads away from a machine coordinate, by that of the program's zero
unfoldable pub is_away : Distance → ℤ → ℤ → Option ℤ → Bool
is_away distance place frame None = false
is_away Incremental place frame (Some l) = not (is_zero l)
is_away Absolute place frame (Some l) = not (same place (frame +ℤ l))

abbrev pub leads_away : Known → InForce → Point3 → ℤ → AxisLengths → Bool
leads_away k force origin tool axes =
    is_away force.distance k.place.x (frame_on origin.x k.frames.axis_offset.x (pos 0)) axes.x
    || is_away force.distance k.place.y (frame_on origin.y k.frames.axis_offset.y (pos 0)) axes.y
    || is_away force.distance k.place.z (frame_on origin.z k.frames.axis_offset.z tool) axes.z

abbrev pub traverse_by : Known → AxisLengths → Action
traverse_by k axes = motion false (written_code k false None (G 0)) axes None

-- first to the point that the axis words name, if that is another one
unfoldable pub way_home : Known → List Code → List Word → InForce → Result (Option Action) Fault
way_home k line words force = do
  axes ← axis_lengths force.units words
  own ← own_length k line words
  moved ← motion_lengths false force axes
  Ok (if leads_away k force (origin_of k.frames (system_after k line)) (own +ℤ force.length) axes
      then Some (traverse_by k moved) else None)
