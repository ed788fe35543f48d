-- What a setup sheet says about a machine and its tools. Our own.
use Rattle.std.specs.Prelude.{ℕ, ◌+◌, ◌/◌, ◌%◌, min, nat_lt, nat_le, ℤ, pos, ◌+ℤ◌, ◌*ℤ◌, List, [], ◌∷◌, ◌++◌, map}
use Rattle.std.specs.Prelude.{Option, Some, None, filter, flat_map, ◌==◌, Bool, true, false, not, ◌&&◌, if◌then◌else◌}
use Rattle.std.specs.Ordering.{int_eq}
use Rattle.ngc_dialect_names.specs.declared.dialect.Dialect.{Dialect}
use Rattle.ngc_file_figures.specs.Files.{FigureValues, acceleration_of, corner_of, jump_of, speeds_of, turn_of}
use Rattle.ngc_file_figures.specs.Limits.{limits_of}
use Rattle.ngc_file_figures.specs.declared.cutter.Cutter.{Cutter}
use Rattle.ngc_file_figures.specs.declared.figures.AxisFigures.{AxisFigures}
use Rattle.ngc_file_figures.specs.declared.figures.MachineFigures.{MachineFigures}
use Rattle.ngc_file_figures.specs.declared.limits.Limits.{Limits}
use Rattle.ngc_file_figures.specs.declared.limits.ToolLimits.{ToolLimits}
use Rattle.ngc_fixed_length.specs.declared.modes.System.{System}
use Rattle.ngc_fixed_length.specs.declared.modes.System.TheVariants as systems
use Rattle.ngc_fixed_length.specs.declared.points.Point3.{Point3}
use Rattle.ngc_machine_files.specs.Machine.{MachineFile}
use Rattle.ngc_machine_files.specs.declared.machine.ArcFeed.{ArcFeed}
use Rattle.ngc_machine_files.specs.declared.machine.ArcFeed.TheVariants as arc_feeds
use Rattle.ngc_machine_files.specs.declared.machine.AxisRates.{AxisRates}
use Rattle.ngc_machine_files.specs.declared.machine.Fixture.{Fixture}
use Rattle.ngc_machine_files.specs.declared.machine.Rapids.{Rapids}
use Rattle.ngc_machine_files.specs.declared.machine.Rapids.TheVariants as ways
use Rattle.ngc_machine_files.specs.declared.machine.StockBox.{StockBox}
use Rattle.ngc_machine_files.specs.declared.parts.Part.{Part}
use Rattle.ngc_machine_files.specs.declared.tools.Tool.{Tool}
use Rattle.ngc_machine_speeds.specs.Speeds.{motor_steps_a_millimetre, steps_a_millimetre}
use Rattle.ngc_machine_speeds.specs.Speeds.{millimetres_a_minute, acceleration, axis_changes}
use Rattle.ngc_machine_speeds.specs.Speeds.{arc_acceleration}
use Rattle.ngc_motors.specs.Counts.{is_grid_step}
use Rattle.ngc_motors.specs.declared.step.MotorStep.{MotorStep}
use Rattle.ngc_setup_sheet.specs.Reaches.{reach_of, is_out_of_reach, is_outside_travel}
use Rattle.ngc_setup_sheet.specs.Spelling.{lines_text}
use Rattle.ngc_setup_sheet.specs.Warnings.{is_odd_speed, is_odd_acceleration, is_short_travel}
use Rattle.ngc_setup_sheet.specs.Warnings.{is_slow_on_arcs, is_thin, is_short_tool, is_odd_offset}
use Rattle.ngc_setup_sheet.specs.Warnings.{are_unset}
use Rattle.ngc_setup_sheet.specs.declared.line.Axis.{Axis}
use Rattle.ngc_setup_sheet.specs.declared.line.Axis.TheVariants as axes
use Rattle.ngc_setup_sheet.specs.declared.line.Fact.{Fact}
use Rattle.ngc_setup_sheet.specs.declared.line.Fact.TheVariants as facts
use Rattle.ngc_setup_sheet.specs.declared.line.Figure.{Figure}
use Rattle.ngc_setup_sheet.specs.declared.line.Figure.TheVariants as figures
use Rattle.ngc_setup_sheet.specs.declared.line.Line.{Line}
use Rattle.ngc_setup_sheet.specs.declared.line.Line.TheVariants as lines
use Rattle.ngc_setup_sheet.specs.declared.line.Warning.{Warning}
use Rattle.ngc_setup_sheet.specs.declared.line.Warning.TheVariants as warnings
use Rattle.ngc_setup_sheet.specs.declared.reach.Reach.{Reach}

-- a line that is present if a condition holds
abbrev pub line_where : Bool → Line → List Line
line_where holds l = if holds then l ∷ [] else []

-- a line where something looks wrong
abbrev pub warned : Bool → Warning → List Line
warned wrong w = line_where wrong (lines.Warning w)

-- ---- figures as they are written, in millionths of the unit

-- a number of thousandths is one of millionths
abbrev pub is_thousandths : ℕ → ℕ → Bool
is_thousandths n millionths = (millionths % 1000 == 0) && (millionths / 1000 == n)

-- what is kept, and what was written if that prints another number
abbrev pub speed_figure : Option ℕ → ℕ → Figure
speed_figure None n = figures.Speed n
speed_figure (Some w) n = if is_thousandths n w then figures.Speed n else figures.SpeedAsWritten n w

abbrev pub acceleration_figure : Option ℕ → ℕ → Figure
acceleration_figure None n = figures.Acceleration n
acceleration_figure (Some w) n =
    if is_thousandths n w then figures.Acceleration n else figures.AccelerationAsWritten n w

abbrev pub from : Fact → ℤ → ℤ → Line
from fact low high = lines.Fact fact (figures.Span (record { low = low; high = high }))

-- ---- the machine

-- an axis isn't faster than the machine
abbrev pub axis_speed : MachineFile → ℕ → ℕ
axis_speed m rate = millimetres_a_minute m (min m.max_rate rate)

abbrev pub have_one_step : MachineFile → Bool
have_one_step m =
    is_grid_step m.step m.motor_steps.x && (is_grid_step m.step m.motor_steps.y
    && is_grid_step m.step m.motor_steps.z)

-- what the grid's step and its number in a millimetre are called: those of the path, where a motor has
-- another step
abbrev pub step_fact : Bool → Fact
step_fact one = if one then facts.Step else facts.PathStep

abbrev pub steps_fact : Bool → Fact
steps_fact one = if one then facts.Steps else facts.PathSteps

abbrev pub step_facts : MachineFile → Option MachineFigures → List Line
step_facts m f =
    lines.Machine ∷ lines.Fact (step_fact (have_one_step m)) (figures.Length m.step)
    ∷ lines.Fact (steps_fact (have_one_step m)) (figures.PerMillimetre (steps_a_millimetre m)) ∷
    lines.Fact facts.Ticks (figures.PerSecond m.ticks_per_second) ∷
    lines.Fact facts.GreatestSpeed (figures.Speed (millimetres_a_minute m m.max_rate)) ∷
    lines.Fact facts.CornerSpeed (speed_figure (corner_of f) (millimetres_a_minute m m.corner)) ∷ []

-- a step of whole nanometres is a length, and any other is said by the steps per millimetre
abbrev pub motor_fact : Axis → MotorStep → Line
motor_fact axis m =
    if (m.steps == 1) && nat_le m.nanometres 1000000
    then lines.Fact (facts.Motor axis) (figures.Length (pos m.nanometres))
    else lines.Fact (facts.MotorSteps axis) (figures.PerMillimetre (motor_steps_a_millimetre m))

-- the step of each motor, unless it is that of the grid on all axes
abbrev pub motor_facts : MachineFile → List Line
motor_facts m =
    if have_one_step m then []
    else motor_fact axes.X m.motor_steps.x ∷ motor_fact axes.Y m.motor_steps.y
    ∷ motor_fact axes.Z m.motor_steps.z ∷ []

-- a jump of 0 is none
abbrev pub jump_facts : MachineFile → Option MachineFigures → List Line
jump_facts m f =
    line_where (nat_lt 0 m.jump)
    (lines.Fact facts.Jump (speed_figure (jump_of f) (millimetres_a_minute m m.jump)))

-- the ring's capacity, unless that is 16
abbrev pub ring_facts : MachineFile → List Line
ring_facts m = line_where (not (m.ring == 16)) (lines.Fact facts.Ring (figures.Count m.ring))

-- what is kept at each place of an arc
abbrev pub place_facts : ArcFeed → List Line
place_facts arc_feeds.Off = []
place_facts arc_feeds.Feed = lines.Fact facts.ArcFeed figures.ByPlace ∷ []
place_facts arc_feeds.FeedAndTurn = lines.Fact facts.ArcFeed figures.ByPlaceWithTurn ∷ []

abbrev pub arc_feed_facts : MachineFile → List Line
arc_feed_facts m = place_facts m.arc_feed

-- the tool changer, if the machine has one
abbrev pub changer_facts : MachineFile → List Line
changer_facts m = line_where m.changer (lines.Fact facts.Changer figures.ByMachine)

-- the margins, unless they are 0, and the way of traverses, unless it is straight
abbrev pub is_free : Rapids → Bool
is_free ways.Straight = false
is_free ways.Free = true

-- a margin, if it isn't 0
abbrev pub margin_line : Fact → ℤ → List Line
margin_line fact margin =
    line_where (not (int_eq margin (pos 0))) (lines.Fact fact (figures.Length margin))

abbrev pub margin_facts : MachineFile → List Line
margin_facts m =
    margin_line facts.Margin m.margins.fixtures ++
    (margin_line facts.TravelMargin m.margins.travel ++
    line_where (is_free m.rapids) (lines.Fact facts.Rapids figures.AnyWay))

-- the language of programs for another control
abbrev pub dialect_lines : Option Dialect → List Line
dialect_lines None = []
dialect_lines (Some d) = lines.Fact facts.Dialect (figures.Language d) ∷ []

abbrev pub dialect_facts : MachineFile → List Line
dialect_facts m = dialect_lines m.dialect

-- the block of material
abbrev pub block_lines : Option StockBox → List Line
block_lines None = []
block_lines (Some b) = lines.Fact facts.Stock (figures.Block b) ∷ []

abbrev pub stock_facts : MachineFile → List Line
stock_facts m = block_lines m.stock

-- the figure of an axis, of all that are written
abbrev pub axis_written : Axis → Option AxisFigures → Option ℕ
axis_written axis None = None
axis_written axes.X (Some s) = Some s.x
axis_written axes.Y (Some s) = Some s.y
axis_written axes.Z (Some s) = Some s.z

abbrev pub accelerations_of : Option MachineFigures → Option AxisFigures
accelerations_of None = None
accelerations_of (Some f) = Some f.accelerations

abbrev pub are_alike : AxisFigures → Bool
are_alike a = (a.x == a.y) && (a.y == a.z)

-- the axes have the same change, and the same acceleration is written for all of them
abbrev pub have_one_acceleration : AxisRates → Option AxisFigures → Bool
have_one_acceleration c None = (c.x == c.y) && (c.y == c.z)
have_one_acceleration c (Some a) = ((c.x == c.y) && (c.y == c.z)) && are_alike a

abbrev pub axis_acceleration : MachineFile → Option AxisFigures → Axis → ℕ → Line
axis_acceleration m a axis change =
    lines.Fact (facts.AxisAcceleration axis)
    (acceleration_figure (axis_written axis a) (acceleration m change))

-- the acceleration of each axis, unless all have the same
abbrev pub accelerations_by : Bool → MachineFile → Option MachineFigures → AxisRates → List Line
accelerations_by one m f c =
    if one
    then lines.Fact facts.Acceleration (acceleration_figure (acceleration_of f) (acceleration m c.x)) ∷ []
    else axis_acceleration m (accelerations_of f) axes.X c.x
    ∷ axis_acceleration m (accelerations_of f) axes.Y c.y
    ∷ axis_acceleration m (accelerations_of f) axes.Z c.z ∷ []

abbrev pub acceleration_facts : MachineFile → Option MachineFigures → List Line
acceleration_facts m f =
    accelerations_by (have_one_acceleration (axis_changes m) (accelerations_of f)) m f (axis_changes m)

abbrev pub arc_fact : MachineFile → Option MachineFigures → Line
arc_fact m f =
    lines.Fact facts.ArcAcceleration (acceleration_figure (turn_of f) (arc_acceleration m))

abbrev pub axis_fact : MachineFile → Option AxisFigures → Axis → ℕ → Line
axis_fact m s axis rate =
    lines.Fact (facts.Speed axis) (speed_figure (axis_written axis s) (axis_speed m rate))

abbrev pub speed_facts : MachineFile → Option AxisFigures → List Line
speed_facts m s =
    axis_fact m s axes.X m.axis_rates.x ∷ axis_fact m s axes.Y m.axis_rates.y
    ∷ axis_fact m s axes.Z m.axis_rates.z ∷ []

abbrev pub rate_facts : MachineFile → Option MachineFigures → List Line
rate_facts m f = acceleration_facts m f ++ (arc_fact m f ∷ speed_facts m (speeds_of f))

abbrev pub machine_places : MachineFile → List Line
machine_places m =
    from (facts.Travel axes.X) m.low.x m.high.x ∷ from (facts.Travel axes.Y) m.low.y m.high.y
    ∷ from (facts.Travel axes.Z) m.low.z m.high.z ∷
    lines.Fact facts.Start (figures.Place m.start)
    ∷ lines.Fact facts.Home (figures.Place m.home28) ∷
    lines.Fact facts.SecondHome (figures.Place m.home30) ∷ []

-- the position of an origin that isn't set, as each is if the file has none
abbrev pub is_zero : Point3 → Bool
is_zero p = int_eq p.x (pos 0) && (int_eq p.y (pos 0) && int_eq p.z (pos 0))

abbrev pub origin_lines : MachineFile → Reach → System → Point3 → List Line
origin_lines m r s p =
    if is_zero p then [] else
    lines.Fact (facts.Origin s) (figures.Place p)
    ∷ warned (is_outside_travel m r p) (warnings.Origin s)

-- coordinate systems in the order of the file
abbrev pub next_system : System → System
next_system systems.First = systems.Second
next_system systems.Second = systems.Third
next_system systems.Third = systems.Fourth
next_system systems.Fourth = systems.Fifth
next_system systems.Fifth = systems.Sixth
next_system systems.Sixth = systems.Seventh
next_system systems.Seventh = systems.Eighth
next_system systems.Eighth = systems.Ninth
next_system systems.Ninth = systems.Ninth

-- those of the systems from s on
abbrev pub origins_from : MachineFile → Reach → System → List Point3 → List Line
origins_from m r s [] = []
origins_from m r s (p ∷ ps) = origin_lines m r s p ++ origins_from m r (next_system s) ps

-- without a jump the corner speed alone bounds where motions meet
abbrev pub corner_note_by : Option MachineFigures → ℕ → Line
corner_note_by None speed = lines.CornerNote speed
corner_note_by (Some f) speed = lines.WrittenCornerNote speed

abbrev pub corner_notes : MachineFile → Option MachineFigures → List Line
corner_notes m f =
    line_where (m.jump == 0) (corner_note_by f (millimetres_a_minute m m.corner))

-- in a file of version 3 the acceleration on arcs is that of `turn`, or else that of the axes
abbrev pub turn_warning : Option ℕ → Warning
turn_warning None = warnings.WrittenArcs
turn_warning (Some turn) = warnings.WrittenTurn

abbrev pub arc_warning : Option MachineFigures → Warning
arc_warning None = warnings.Arcs
arc_warning (Some f) = turn_warning f.turn

abbrev pub machine_warnings : MachineFile → Option MachineFigures → List Line
machine_warnings m f =
    warned (is_odd_speed m) warnings.Speed
    ++ (warned (is_odd_acceleration m) warnings.Acceleration ++
    (warned (is_slow_on_arcs m) (arc_warning f) ++
    (warned (is_short_travel m.low.x m.high.x) (warnings.Travel axes.X)
    ++ (warned (is_short_travel m.low.y m.high.y) (warnings.Travel axes.Y) ++
    warned (is_short_travel m.low.z m.high.z) (warnings.Travel axes.Z)))))

-- its places and origins, the block of material, the note and the warnings
abbrev pub machine_end : MachineFile → Option MachineFigures → Reach → List Line
machine_end m f r =
    machine_places m ++ (origins_from m r systems.First m.origins ++ (stock_facts m ++
    (corner_notes m f ++ machine_warnings m f)))

-- with the figures of a file of version 3
unfoldable pub machine_lines : MachineFile → Option MachineFigures → Reach → List Line
machine_lines m f r =
    step_facts m f ++ (motor_facts m ++ (jump_facts m f ++ (rate_facts m f ++ (ring_facts m ++
    (arc_feed_facts m ++ (changer_facts m ++ (margin_facts m ++ (dialect_facts m ++
    machine_end m f r))))))))

-- ---- fixtures

abbrev pub fixture_facts : ℕ → Fixture → List Line
fixture_facts i f =
    lines.Fixture i f.name ∷ from (facts.Extent axes.X) f.low.x f.high.x
    ∷ from (facts.Extent axes.Y) f.low.y f.high.y ∷
    from (facts.Extent axes.Z) f.low.z f.high.z ∷ []

abbrev pub thin_warning : Option MachineFigures → ℕ → Warning
thin_warning None i = warnings.Thin i
thin_warning (Some w) i = warnings.WrittenThin i

-- the warnings fit the version of the machine file
abbrev pub fixture_lines : MachineFile → Option MachineFigures → Reach → ℕ → Fixture → List Line
fixture_lines m w r i f =
    fixture_facts i f
    ++ (warned (is_thin f) (thin_warning w i)
    ++ warned (is_out_of_reach m r f) (warnings.OutOfReach i))

-- numbered from i on
abbrev pub fixtures_from : MachineFile → Option MachineFigures → Reach → ℕ → List Fixture → List Line
fixtures_from m w r i [] = []
fixtures_from m w r i (f ∷ fs) = fixture_lines m w r i f ++ fixtures_from m w r (i + 1) fs

-- ---- tools

-- the lines of a stack of parts that begins at this height
abbrev pub part_line : ℤ → Part → Line
part_line foot part =
    lines.Fact facts.Part
    (figures.Part (record { low = foot; high = foot +ℤ part.length }) (pos 2 *ℤ part.radius))

abbrev pub part_lines : ℤ → List Part → List Line
part_lines foot [] = []
part_lines foot (part ∷ parts) = part_line foot part ∷ part_lines (foot +ℤ part.length) parts

abbrev pub tool_facts : Tool → List Line
tool_facts t =
    lines.Tool t.number t.name ∷ lines.Fact facts.Offset (figures.Length t.offset) ∷ []

-- the cutter of a tool, and its limits

abbrev pub cutter_lines : Option Cutter → List Line
cutter_lines None = []
cutter_lines (Some cutter) = lines.Fact facts.Cutter (figures.Cutter cutter) ∷ []

abbrev pub turning_lines : Option Limits → List Line
turning_lines None = []
turning_lines (Some l) = lines.Fact facts.SpindleLimits (figures.Turning l) ∷ []

abbrev pub feed_lines : Fact → Option Limits → List Line
feed_lines fact None = []
feed_lines fact (Some l) = lines.Fact fact (figures.Feeds l) ∷ []

abbrev pub limit_lines : Option ToolLimits → List Line
limit_lines None = []
limit_lines (Some l) =
    cutter_lines l.cutter ++ (turning_lines l.speed ++ (feed_lines facts.FeedLimits l.feed
    ++ feed_lines facts.PlungeLimits l.plunge))

-- in a table of version 3 each tool has limits, if only empty ones
abbrev pub short_warning : Option ToolLimits → ℕ → Warning
short_warning None number = warnings.Short number
short_warning (Some l) number = warnings.WrittenShort number

abbrev pub tool_lines_by : Bool → Option ToolLimits → Tool → List Line
tool_lines_by unset l t =
    tool_facts t ++ (part_lines t.bottom t.parts ++ (limit_lines l ++
    (warned (is_short_tool t) (short_warning l t.number)
    ++ warned (not unset && is_odd_offset t) (warnings.Offset t.number))))

-- in a table without offsets, no tool has a warning of its own about it
abbrev pub tool_lines : Bool → List ToolLimits → Tool → List Line
tool_lines unset table t = tool_lines_by unset (limits_of t.number table) t

-- one warning after the tools takes the place of those
abbrev pub table_lines : List ToolLimits → List Tool → List Line
table_lines table tools =
    flat_map (tool_lines (are_unset tools) table) tools ++ warned (are_unset tools) warnings.Unset

-- ---- the whole sheet

-- with what the two files say besides the machine and its tools
abbrev pub sheet : MachineFile → FigureValues → List Tool → List Line
sheet m v tools =
    machine_lines m v.machine (reach_of tools)
    ++ (fixtures_from m v.machine (reach_of tools) 0 m.fixtures ++ table_lines v.tools tools)

-- its text
abbrev pub sheet_text : MachineFile → FigureValues → List Tool → List ℕ
sheet_text m v tools = lines_text (sheet m v tools)

-- ---- only its warnings

abbrev pub is_warning : Line → Bool
is_warning (lines.Warning w) = true
is_warning _ = false

abbrev pub warnings_text : MachineFile → FigureValues → List Tool → List ℕ
warnings_text m v tools = lines_text (filter is_warning (sheet m v tools))

-- ---- the same warnings for a JSON document

-- a warning as an object of it
abbrev pub as_fact : Line → Line
as_fact (lines.Warning w) = lines.WarningFact w
as_fact l = l

-- an object for each warning, in the order of the sheet
abbrev pub warning_facts : MachineFile → FigureValues → List Tool → List ℕ
warning_facts m v tools = lines_text (map as_fact (filter is_warning (sheet m v tools)))

-- ---- the same warnings for a machine file

-- a warning as a comment of it
abbrev pub as_remark : Line → Line
as_remark (lines.Warning w) = lines.WarningRemark w
as_remark l = l

-- a comment for each warning, in the order of the sheet
abbrev pub warning_remarks : MachineFile → FigureValues → List Tool → List ℕ
warning_remarks m v tools = lines_text (map as_remark (filter is_warning (sheet m v tools)))
