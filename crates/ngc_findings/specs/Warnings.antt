-- Mistakes in a program that passes. Our own.
use Rattle.std.specs.Prelude.{ℕ, ◌+◌, ◌*◌, min, max, nat_lt, nat_le, ℤ, int_lt, unsigned_abs, List, []}
use Rattle.std.specs.Prelude.{◌∷◌, ◌++◌}
use Rattle.std.specs.Prelude.{length, Option, Some, None, Bool, true, false, not, ◌&&◌, ◌||◌}
use Rattle.std.specs.Prelude.{◌==◌, ◌/◌, if◌then◌else◌}
use Rattle.std.specs.List.{list_any}
use Rattle.std.specs.Ordering.{int_eq}
use Rattle.ngc_file_figures.specs.declared.figures.AxisFigures.{AxisFigures}
use Rattle.ngc_fixed_length.specs.Grid.{grid, distance}
use Rattle.ngc_fixed_length.specs.declared.modes.Plane.{Plane}
use Rattle.ngc_fixed_length.specs.declared.modes.Plane.TheVariants.{XY, ZX, YZ}
use Rattle.ngc_fixed_length.specs.declared.points.GridBox.{GridBox}
use Rattle.ngc_fixed_length.specs.declared.points.Point2.{Point2}
use Rattle.ngc_fixed_length.specs.declared.points.Point3.{Point3}
use Rattle.ngc_fixed_length.specs.declared.points.StepPos.{StepPos}
use Rattle.ngc_arc_geometry.specs.Radii.{inner_radius}
use Rattle.ngc_arc_geometry.specs.Sector.{extremes, is_full}
use Rattle.ngc_arc_geometry.specs.Shape.{ArcShape, start_of, end_of}
use Rattle.ngc_machine_files.specs.Machine.{MachineFile}
use Rattle.ngc_machine_files.specs.declared.tools.Tool.{Tool}
use Rattle.ngc_commands.specs.declared.command.Action.{Action}
use Rattle.ngc_commands.specs.declared.command.Action.TheVariants.{Move}
use Rattle.ngc_commands.specs.declared.command.Command.{Command}
use Rattle.ngc_commands.specs.declared.movement.Feed.TheVariants.{PerMinute}
use Rattle.ngc_commands.specs.declared.movement.Motion.{Motion}
use Rattle.ngc_commands.specs.declared.movement.Pace.{Pace}
use Rattle.ngc_commands.specs.declared.movement.Pace.TheVariants.{Rapid, Feed}
use Rattle.ngc_commands.specs.declared.movement.Way.{Way}
use Rattle.ngc_commands.specs.declared.movement.Way.TheVariants.{Line, Arc}
use Rattle.ngc_collision.specs.Body.{Solid, bodies, span}
use Rattle.ngc_findings.specs.Extents.{reach}
use Rattle.ngc_findings.specs.ToolStates.{beginning, next}
use Rattle.ngc_findings.specs.Ways.{square_between}
use Rattle.ngc_findings.specs.declared.line.Line as told
use Rattle.ngc_findings.specs.declared.line.Line.TheVariants as lines
use Rattle.ngc_findings.specs.declared.tool_state.Entry.{Entry}
use Rattle.ngc_findings.specs.declared.tool_state.ToolState.{ToolState}
use Rattle.ngc_findings.specs.declared.warnings.AxisExtent.{AxisExtent}
use Rattle.ngc_findings.specs.declared.warnings.Concern.{Concern}
use Rattle.ngc_findings.specs.declared.warnings.Concern.TheVariants.{NoTool, IdleSpindle}
use Rattle.ngc_findings.specs.declared.warnings.Concern.TheVariants.{FastFeed, NearlyFull, LowHome}
use Rattle.ngc_findings.specs.declared.warnings.Concern.TheVariants.{LowAcross, Untested}
use Rattle.ngc_findings.specs.declared.warnings.Warning.{Warning}

-- ---- without a tool

-- a box that leaves the height of a grid point
abbrev pub leaves : StepPos → GridBox → Bool
leaves p b = not (int_eq b.low.z p.z) || not (int_eq b.high.z p.z)

-- a motion that leaves the height of the start, without a tool
abbrev pub is_unarmed : MachineFile → Option Tool → Way → Bool
is_unarmed machine None way = leaves (grid machine.step machine.start) (reach machine.step way)
is_unarmed machine (Some tool) way = false

-- a feed without a tool
abbrev pub is_bare_feed : Option Tool → Pace → Bool
is_bare_feed None (Feed feed) = true
is_bare_feed tool pace = false

-- without a tool, a feed, or a motion that leaves the height of the start
abbrev pub is_untested : MachineFile → Option Tool → Way → Pace → Bool
is_untested machine tool way pace = is_bare_feed tool pace || is_unarmed machine tool way

-- ---- the spindle off

-- a feed with a tool that doesn't turn
abbrev pub is_idle : Bool → Option Tool → Pace → Bool
is_idle is_turning (Some tool) (Feed feed) = not is_turning
is_idle is_turning tool pace = false

-- ---- too fast

-- the speed of one step per tick, in nanometres per second
abbrev pub step_speed : MachineFile → ℕ
step_speed machine = unsigned_abs machine.step * machine.ticks_per_second

-- a rate, limited to that of an axis along which a motion goes from `low` to `high`
abbrev pub rate_on_axis : ℤ → ℤ → ℕ → ℕ → ℕ
rate_on_axis low high of_axis rate = if int_eq low high then rate else min rate of_axis

-- the greatest rate of a motion with this box, in millionths of a step per tick
abbrev pub greatest_rate : MachineFile → GridBox → ℕ
greatest_rate m b =
    rate_on_axis b.low.x b.high.x m.axis_rates.x
    (rate_on_axis b.low.y b.high.y m.axis_rates.y
    (rate_on_axis b.low.z b.high.z m.axis_rates.z m.max_rate))

-- its greatest speed along an axis, in millionths of a nanometre per second
abbrev pub greatest_speed : MachineFile → Way → ℕ
greatest_speed machine way =
    greatest_rate machine (reach machine.step way) * step_speed machine

-- A feed in nanometres per minute that is above it. A speed is rounded down to a whole millionth in
-- a machine file, so a feed below the speed of the next rate is not above it.
abbrev pub is_above_rate : MachineFile → Way → ℕ → Bool
is_above_rate machine way feed =
    nat_le (60 * (greatest_speed machine way + step_speed machine)) (1000000 * feed)

abbrev pub greatest_of : AxisFigures → ℕ
greatest_of s = max (max s.x s.y) s.z

-- ---- by speeds as they are written, which count by component

-- how far a box extends along each axis, in steps, and along which it extends farthest
abbrev pub extent_of : GridBox → AxisExtent
extent_of b = record {
  x = distance b.low.x b.high.x;
  y = distance b.low.y b.high.y;
  z = distance b.low.z b.high.z;
}

abbrev pub longest : AxisExtent → ℕ
longest e = max (max e.x e.y) e.z

-- an axis of an arc's plane has the whole speed somewhere, if it moves
abbrev pub whole : ℕ → ℕ → ℕ
whole n d = if d == 0 then 0 else n

abbrev pub whole_in_plane : Plane → ℕ → AxisExtent → AxisExtent
whole_in_plane XY n e = record { x = whole n e.x; y = whole n e.y; z = e.z }
whole_in_plane ZX n e = record { x = whole n e.x; y = e.y; z = whole n e.z }
whole_in_plane YZ n e = record { x = e.x; y = whole n e.y; z = whole n e.z }

abbrev pub shares_of : Way → AxisExtent → AxisExtent
shares_of (Line start end) e = e
shares_of (Arc a) e = whole_in_plane a.plane (longest e) e

-- a speed of the axis that moves n steps, limited so that one that moves d steps keeps its own speed
abbrev pub speed_by_share : ℕ → ℕ → ℕ → ℕ → ℕ
speed_by_share n d of_axis speed = if d == 0 then speed else min (of_axis * n / d) speed

-- the greatest speed along the axis that moves most
abbrev pub speed_by_shares : AxisFigures → ℕ → AxisExtent → ℕ
speed_by_shares s n shares =
    speed_by_share n shares.x s.x
    (speed_by_share n shares.y s.y (speed_by_share n shares.z s.z (greatest_of s)))

abbrev pub greatest_written : AxisFigures → Way → AxisExtent → ℕ
greatest_written s way e = speed_by_shares s (longest e) (shares_of way e)

-- where speeds are written, none is rounded
abbrev pub is_above : MachineFile → Option AxisFigures → Way → ℕ → Bool
is_above machine None way feed = is_above_rate machine way feed
is_above machine (Some s) way feed =
    nat_lt (greatest_written s way (extent_of (reach machine.step way))) feed

abbrev pub is_fast : MachineFile → Option AxisFigures → Way → Pace → Bool
is_fast machine speeds way (Feed (PerMinute feed)) = is_above machine speeds way feed
is_fast machine speeds way _ = false

-- ---- nearly a full circle

abbrev pub square_apart : Point2 → Point2 → ℕ
square_apart p q = square_between p.u q.u + square_between p.v q.v

-- The ends lie less than 0.01 mm apart, and less than a degree about the centre: the square of the
-- chord of a degree is the 3,283rd part of the squared radius.
abbrev pub ends_meet : ArcShape → Bool
ends_meet a =
    nat_lt (square_apart (start_of a) (end_of a)) 100000000
    && nat_le (3283 * square_apart (start_of a) (end_of a)) (inner_radius a * inner_radius a)

-- Such ends, but no full circle. If two of the points at which a full circle crosses the axes
-- through its centre are on the arc, it is longer than a degree, and therefore longer than 359
-- degrees.
abbrev pub is_nearly_full : Way → Bool
is_nearly_full (Arc a) = ends_meet a && (not (is_full a) && nat_lt 1 (length (extremes a)))
is_nearly_full (Line start end) = false

-- ---- home between fixtures

abbrev pub is_at : Point3 → Point3 → Bool
is_at p q = int_eq p.x q.x && (int_eq p.y q.y && int_eq p.z q.z)

-- not only up or down
abbrev pub is_sideways : Point3 → Point3 → Bool
is_sideways start end = not (int_eq start.x end.x) || not (int_eq start.y end.y)

-- to a home position, and not only up or down
abbrev pub goes_home : MachineFile → Point3 → Point3 → Bool
goes_home machine start end =
    (is_at end machine.home28 || is_at end machine.home30) && is_sideways start end

-- a body reaches below the top of some fixture
abbrev pub is_low : MachineFile → Solid → Bool
is_low machine b = list_any (λ f. int_lt b.low.z f.high.z) machine.fixtures

-- some body of the tool is low, for some position in a box
abbrev pub comes_low : MachineFile → Option Tool → GridBox → Bool
comes_low machine tool b = list_any (is_low machine) (bodies tool (span machine.step b))

-- a traverse home on which the tool comes low
abbrev pub is_low_home : MachineFile → Option Tool → Way → Pace → Bool
is_low_home machine tool (Line start end) Rapid =
    goes_home machine start end && comes_low machine tool (reach machine.step (Line start end))
is_low_home machine tool _ _ = false

-- ---- across the work

-- a box reaches inside an area along X, and along Y
abbrev pub is_into_x : GridBox → GridBox → Bool
is_into_x a b = int_lt b.low.x a.high.x && int_lt a.low.x b.high.x

abbrev pub is_into_y : GridBox → GridBox → Bool
is_into_y a b = int_lt b.low.y a.high.y && int_lt a.low.y b.high.y

-- and as seen from above
abbrev pub is_across : GridBox → GridBox → Bool
is_across a b = is_into_x a b && is_into_y a b

abbrev pub is_over : Option GridBox → GridBox → Bool
is_over None b = false
is_over (Some a) b = is_across a b

-- an end of a line is lower than this height
abbrev pub is_lower : Option ℤ → Point3 → Point3 → Bool
is_lower None start end = false
is_lower (Some height) start end = int_lt start.z height || int_lt end.z height

-- A traverse that isn't only up or down, that reaches inside the area of the feeds, and of which an
-- end is lower than the height at which the last feeds began.
abbrev pub is_low_across : ℤ → Option GridBox → Entry → Way → Pace → Bool
is_low_across step area e (Line start end) Rapid =
    is_sideways start end && (is_lower e.height start end && is_over area (reach step (Line start end)))
is_low_across step area e _ _ = false

-- ---- over a program

abbrev pub concerns : MachineFile → Concern → ToolState → Motion → Bool
concerns machine NoTool s m = is_unarmed machine s.reached.tool m.way
concerns machine IdleSpindle s m = is_idle s.is_turning s.reached.tool m.pace
concerns machine (FastFeed speeds) s m = is_fast machine speeds m.way m.pace
concerns machine NearlyFull s m = is_nearly_full m.way
concerns machine LowHome s m = is_low_home machine s.reached.tool m.way m.pace
concerns machine LowAcross s m = is_low_across machine.step s.area s.entry m.way m.pace
concerns machine Untested s m = is_untested machine s.reached.tool m.way m.pace

-- a motion, with the tool and the spindle at that point
abbrev pub is_concerned : MachineFile → Concern → ToolState → Action → Bool
is_concerned machine concern s (Move m) = concerns machine concern s m
is_concerned machine concern s _ = false

abbrev pub line_of : MachineFile → Concern → ToolState → Command → List ℕ
line_of machine concern s c = if is_concerned machine concern s c.action then c.line ∷ [] else []

-- the lines of the commands concerned, in order
abbrev pub lines_of : MachineFile → Concern → ToolState → List Command → List ℕ
lines_of machine concern s [] = []
lines_of machine concern s (c ∷ cs) =
    line_of machine concern s c ++ lines_of machine concern (next s c.action) cs

abbrev pub last_of : ℕ → List ℕ → ℕ
last_of line [] = line
last_of line (next ∷ lines) = last_of next lines

-- no warning, or one with the number of lines, the first and the last
abbrev pub warning : Concern → List ℕ → Option Warning
warning concern [] = None
warning concern (line ∷ lines) = Some (record {
  concern = concern;
  count = length (line ∷ lines);
  line = line;
  last = last_of line lines;
})

abbrev pub warning_about : MachineFile → Concern → List Command → Option Warning
warning_about machine concern commands =
    warning concern (lines_of machine concern (beginning machine concern commands) commands)

abbrev pub warned_lines : Option Warning → List told.Line
warned_lines None = []
warned_lines (Some w) = lines.Warned w ∷ []

abbrev pub warned : MachineFile → Concern → List Command → List told.Line
warned machine concern commands = warned_lines (warning_about machine concern commands)

-- the warnings about traverses
abbrev pub traverse_lines : MachineFile → List Command → List told.Line
traverse_lines machine commands = warned machine LowHome commands ++ warned machine LowAcross commands

-- the warnings about single motions, and about traverses
abbrev pub motion_lines : MachineFile → Option AxisFigures → List Command → List told.Line
motion_lines machine speeds commands =
    warned machine (FastFeed speeds) commands
    ++ (warned machine NearlyFull commands ++ traverse_lines machine commands)

-- with the speeds of the axes as they are written, if the machine file has them
abbrev pub warning_lines : MachineFile → Option AxisFigures → List Command → List told.Line
warning_lines machine speeds commands =
    warned machine NoTool commands
    ++ (warned machine IdleSpindle commands ++ motion_lines machine speeds commands)

-- ---- the count of commands

-- the count with one more command
abbrev pub counted : Concern → Option Warning → ℕ → Option Warning
counted concern None line =
    Some (record { concern = concern; count = 1; line = line; last = line })
counted concern (Some w) line = Some (record w { count = w.count + 1; last = line })

abbrev pub number_of : Option Warning → ℕ
number_of None = 0
number_of (Some w) = w.count
