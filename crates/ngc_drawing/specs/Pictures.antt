-- The picture of a program on its machine. Our own.
use Rattle.std.specs.Prelude.{ℕ, ◌+◌, ◌*◌, ℤ, min, nat_le, pos, ◌+ℤ◌, ◌-ℤ◌, ◌*ℤ◌, unsigned_abs}
use Rattle.std.specs.Prelude.{List, [], ◌∷◌}
use Rattle.std.specs.Prelude.{◌++◌, length, map, drop, take, Option, Some, None, if◌then◌else◌}
use Rattle.ngc_fixed_length.specs.Boxes.{only}
use Rattle.ngc_fixed_length.specs.Grid.{grid}
use Rattle.ngc_fixed_length.specs.Signed.{is_zero as is_none}
use Rattle.ngc_fixed_length.specs.declared.points.Point3.{Point3}
use Rattle.ngc_machine_files.specs.Machine.{MachineFile}
use Rattle.ngc_machine_files.specs.declared.machine.Fixture.{Fixture}
use Rattle.ngc_machine_files.specs.declared.parts.Part.{Part}
use Rattle.ngc_machine_files.specs.declared.tools.Tool.{Tool}
use Rattle.ngc_commands.specs.Movement.{end_of}
use Rattle.ngc_commands.specs.Reached.{at_start, after_all}
use Rattle.ngc_commands.specs.declared.command.Action.{Action}
use Rattle.ngc_commands.specs.declared.command.Action.TheVariants.{Move}
use Rattle.ngc_commands.specs.declared.command.Command.{Command}
use Rattle.ngc_commands.specs.declared.movement.Way.{Way}
use Rattle.ngc_certificate_text.specs.Certificate.{Entry}
use Rattle.ngc_collision.specs.Body.{bodies, span}
use Rattle.ngc_drawing.specs.Bodies.{sweeps, swept_from}
use Rattle.ngc_drawing.specs.Holes.{holes}
use Rattle.ngc_drawing.specs.Labels.{is_moved, is_zero, labels, lines_at, work_place}
use Rattle.ngc_picture_shapes.specs.Sheets.{frame, is_in, is_within, unit_of, sheet, pane}
use Rattle.ngc_picture_shapes.specs.Spelling.{shapes_text}
use Rattle.ngc_picture_shapes.specs.Strokes.{stroke, strokes}
use Rattle.ngc_picture_shapes.specs.Tools.{used, number_of, name_of, eye_of}
use Rattle.ngc_picture_shapes.specs.Views.{spot, tip_spot, rectangle, block, micrometres}
use Rattle.ngc_picture_shapes.specs.declared.eye.Eye.{Eye}
use Rattle.ngc_drawing.specs.declared.label.Placed.{Placed}
use Rattle.ngc_picture_shapes.specs.declared.look.Look.{Look}
use Rattle.ngc_drawing.specs.declared.origin.WorkOrigin.{WorkOrigin}
use Rattle.ngc_drawing.specs.declared.refusal.RefusedMotion.{RefusedMotion}
use Rattle.ngc_picture_shapes.specs.declared.shape.BoxKind.{BoxKind}
use Rattle.ngc_picture_shapes.specs.declared.shape.BoxKind.TheVariants as kinds
use Rattle.ngc_picture_shapes.specs.declared.shape.Ink.TheVariants as inks
use Rattle.ngc_picture_shapes.specs.declared.shape.Mark.{Mark}
use Rattle.ngc_picture_shapes.specs.declared.shape.Mark.TheVariants as marks
use Rattle.ngc_picture_shapes.specs.declared.shape.Shape.{Shape}
use Rattle.ngc_picture_shapes.specs.declared.shape.Shape.TheVariants as shapes
use Rattle.ngc_picture_shapes.specs.declared.spot.Rectangle.{Rectangle}
use Rattle.ngc_picture_shapes.specs.declared.spot.Spot.{Spot}
use Rattle.ngc_drawing.specs.declared.sweep.Sweep.{Sweep}
use Rattle.ngc_picture_shapes.specs.declared.view.View.{View}
use Rattle.ngc_picture_shapes.specs.declared.view.View.TheVariants.{Iso}

-- a box: its rectangle, and in the isometric view its outline and its edges at the nearest corner
abbrev pub boxed : View → BoxKind → Point3 → Point3 → List Shape
boxed Iso kind low high =
    shapes.BoxBegin kind ∷ shapes.Silhouette (block low high) ∷ shapes.NearEdges (block low high)
    ∷ shapes.PathEnd ∷ []
boxed view kind low high = shapes.Outline kind (rectangle view low high) ∷ []

-- the outline of a fixture that is grown by a margin above 0
abbrev pub margin_shapes : View → ℤ → Fixture → List Shape
margin_shapes view m f = if is_none m then [] else boxed view kinds.Margin f.low f.high

-- the corners of the fixture within its margin
abbrev pub raised : ℤ → Point3 → Point3
raised m p = record { x = p.x +ℤ m; y = p.y +ℤ m; z = p.z +ℤ m }

abbrev pub lowered : ℤ → Point3 → Point3
lowered m p = record { x = p.x -ℤ m; y = p.y -ℤ m; z = p.z -ℤ m }

-- A fixture that is grown by a margin, the fixture within, and its label, moved down by this number
-- of lines: its number and its name.
abbrev pub fixture : View → ℤ → ℕ → ℕ → Fixture → List Shape
fixture view m lines i f =
    margin_shapes view m f ++ (boxed view kinds.Fixture (raised m f.low) (lowered m f.high)
    ++ (shapes.FixtureNumber (spot view f.low) i lines ∷ shapes.Name f.name ∷ shapes.LabelEnd ∷ []))

abbrev pub fixtures_from : View → ℤ → List Placed → ℕ → List Fixture → List Shape
fixtures_from view m labels i [] = []
fixtures_from view m labels i (f ∷ fs) =
    fixture view m (lines_at labels i) i f ++ fixtures_from view m labels (i + 1) fs

-- a mark at a spot that the picture shows
abbrev pub marked_in : Rectangle → Mark → Spot → List Shape
marked_in area mark p = if is_in area p then shapes.Mark mark p ∷ [] else []

-- the machine's start, its homes, and the names of the axes
abbrev pub places : View → MachineFile → Rectangle → List Placed → List Shape
places view machine area labels =
    marked_in area (marks.Start (lines_at labels 1)) (spot view machine.start)
    ++ marked_in area (marks.Home (lines_at labels 2)) (spot view machine.home28)
    ++ marked_in area (marks.SecondHome (lines_at labels 3)) (spot view machine.home30)
    ++ shapes.Mark (marks.Axes view) area.low ∷ []

-- the origin of the work, with the code of its coordinate system, unless it is the machine's zero
abbrev pub origin : View → Rectangle → List Placed → WorkOrigin → List Shape
origin view area labels w =
    if is_zero (work_place w) then []
    else marked_in area (marks.Origin w.system (is_moved w) (lines_at labels 0)) (spot view (work_place w))

abbrev pub marked : View → MachineFile → Rectangle → List Placed → WorkOrigin → List Shape
marked view machine area labels w =
    places view machine area labels ++ origin view area labels w

-- lengths that a scale has, in micrometres: 1, 2 and 5 followed by zeros
abbrev pub SCALES : List ℕ
SCALES =
    50000000 ∷ 20000000 ∷ 10000000 ∷ 5000000 ∷ 2000000 ∷ 1000000 ∷ 500000 ∷ 200000 ∷ 100000 ∷ 50000
    ∷ 20000 ∷ 10000 ∷ 5000 ∷ 2000 ∷ 1000 ∷ []

-- the longest of at most `most` micrometres, or the shortest
abbrev pub scale_in : ℕ → List ℕ → ℕ
scale_in most [] = 1000
scale_in most (n ∷ ns) = if nat_le n most then n else scale_in most ns

-- a part of a tool by its diameter and its length
abbrev pub part : Part → Shape
part p = shapes.Part (micrometres (pos 2 *ℤ p.radius)) (micrometres p.length)

abbrev pub parts : Option Tool → List Shape
parts None = []
parts (Some tool) = map part tool.parts

abbrev pub tool_row : ℕ → Option Tool → List Shape
tool_row rank tool =
    shapes.Tool rank (number_of tool) ∷ shapes.Name (name_of tool)
    ∷ (parts tool ++ shapes.ToolEnd ∷ [])

abbrev pub tool_rows : ℕ → List (Option Tool) → List Shape
tool_rows rank [] = []
tool_rows rank (tool ∷ tools) = tool_row rank tool ++ tool_rows (rank + 1) tools

-- ---- what is refused

-- the first of these fixtures in red
abbrev pub first_red : View → List Fixture → List Shape
first_red view [] = []
first_red view (f ∷ fs) = boxed view kinds.FaultFixture f.low f.high

abbrev pub refused_fixture : View → List Fixture → Option ℕ → List Shape
refused_fixture view fixtures None = []
refused_fixture view fixtures (Some i) = first_red view (drop i fixtures)

-- the path of a motion in red, with the fault's number at its end
abbrev pub refused_way : Eye → ℕ → Way → List Shape
refused_way eye fault way = stroke eye None inks.Fault way ++ shapes.PathEnd
    ∷ shapes.FaultNumber (tip_spot eye (end_of way)) fault ∷ []

-- that of the first of these motions
abbrev pub refused_action : Eye → ℕ → Action → List Shape
refused_action eye fault (Move m) = refused_way eye fault m.way
refused_action eye fault _ = []

abbrev pub first_refused : Eye → ℕ → List Command → List Shape
first_refused eye fault [] = []
first_refused eye fault (c ∷ cs) = refused_action eye fault c.action

-- the tool that is mounted at a command
abbrev pub tool_before : MachineFile → List Command → ℕ → Option Tool
tool_before machine commands k = (after_all (at_start machine) (take k commands)).tool

-- a box that the tool fills there
abbrev pub tool_box : View → Point3 → Point3 → Shape
tool_box Iso low high = shapes.FaultBlock (block low high)
tool_box view low high = shapes.Outline kinds.FaultTool (rectangle view low high)

-- the boxes that a tool fills at a place, which is rounded to the grid; without a tool the place
-- itself
abbrev pub standing : View → ℤ → Option Tool → Point3 → List Shape
standing view step tool p = map (λ b. tool_box view b.low b.high)
    (bodies tool (span step (only (grid step p))))

-- those at the end of the first of these motions
abbrev pub outline : View → ℤ → Option Tool → Action → List Shape
outline view step tool (Move m) = standing view step tool (end_of m.way)
outline view step tool _ = []

abbrev pub first_outline : View → ℤ → Option Tool → List Command → List Shape
first_outline view step tool [] = []
first_outline view step tool (c ∷ cs) = outline view step tool c.action

-- the fixture, the tool at the end of the motion, and the motion, while this tool is mounted
abbrev pub refused_by : View → MachineFile → List Command → RefusedMotion → Option Tool → List Shape
refused_by view machine commands r tool =
    refused_fixture view machine.fixtures r.fixture
    ++ first_outline view machine.step tool (drop r.command commands)
    ++ first_refused (eye_of view tool) r.fault (drop r.command commands)

abbrev pub refused : View → MachineFile → List Command → Option RefusedMotion → List Shape
refused view machine commands None = []
refused view machine commands (Some r) =
    refused_by view machine commands r (tool_before machine commands r.command)

abbrev pub refusal_row : Option RefusedMotion → List Shape
refusal_row None = []
refusal_row (Some r) = shapes.FaultLine r.fault r.command ∷ []

-- ---- the whole picture

-- how many rows of tools and faults the legend has; there is space for a thousand tools
abbrev pub rows : List (Option Tool) → ℕ
rows tools = min (length tools) 1000 + 1

-- the travel limits; where the picture shows a part of them alone, as a thin line, and that part
abbrev pub travel_in : View → Rectangle → Point3 → Point3 → List Shape
travel_in view area low high =
    if is_within area (rectangle view low high) then boxed view kinds.Travel low high
    else shapes.Window (pane area)
    ∷ (boxed view kinds.ThinTravel low high ++ shapes.WindowEnd ∷ [])

abbrev pub opening : View → MachineFile → Rectangle → List (Option Tool) → List Shape
opening view machine area tools =
    (shapes.Begin (sheet area (rows tools)) ∷ shapes.Lines ∷ [])
    ++ travel_in view area machine.low machine.high

abbrev pub scaled : View → Rectangle → List Shape
scaled view area =
    shapes.Scale area.low (scale_in (25 * unsigned_abs (unit_of area)) SCALES) ∷
    shapes.ScaleLength area.low (scale_in (25 * unsigned_abs (unit_of area)) SCALES)
    ∷ shapes.ScaleNote view area.low ∷ shapes.Legend area.low ∷ []

-- travel, fixtures, whose labels follow the four of the marks, and the bodies of tools over these
-- boxes
abbrev pub ground : View → MachineFile → Rectangle → List (Option Tool) → List Sweep →
    List Placed → List Shape
ground view machine area tools swept labels =
    opening view machine area tools
    ++ (fixtures_from view machine.margins.fixtures (drop 4 labels) 0 machine.fixtures
    ++ swept_from view machine.step tools None swept)

-- the path and the holes that are drilled
abbrev pub path : View → List (Option Tool) → List Command → List Shape
path view tools commands = strokes view tools commands ++ holes view commands

-- these, the path, the marks, the refusal, the scale and the legend
abbrev pub picture_of : View → MachineFile → List Command → Option RefusedMotion → Rectangle →
    List (Option Tool) → List Sweep → List Placed → WorkOrigin → List Shape
picture_of view machine commands refusal area tools swept labels w =
    ground view machine area tools swept labels ++ (path view tools commands ++
    (marked view machine area labels w
    ++ (refused view machine commands refusal ++ (scaled view area ++ (tool_rows 0 tools ++
    (refusal_row refusal ++ shapes.End ∷ []))))))

-- in an area, with the labels that it has there
abbrev pub text_in : View → MachineFile → List Command → Option RefusedMotion → Rectangle →
    List (Option Tool) → List Sweep → WorkOrigin → List ℕ
text_in view machine commands refusal area tools swept w =
    shapes_text (unit_of area) (picture_of view machine commands refusal area tools swept
    (labels (unit_of area) view area machine w) w)

-- on the sheet that commands need
abbrev pub text_of : Look → MachineFile → List Command → Option RefusedMotion → List (Option Tool) →
    List Sweep → WorkOrigin → List ℕ
text_of look machine commands refusal tools swept w =
    text_in look.view machine commands refusal (frame look machine commands) tools swept w

-- the bodies over the boxes of a certificate's motions, if they are to be drawn
abbrev pub shown_sweeps : Look → List (Option Tool) → List Command → List Entry → List Sweep
shown_sweeps look tools commands entries =
    if look.bodies then sweeps look.view tools commands entries else []

-- The text of the picture of commands with the motions of a certificate, or with none, and with
-- this work origin.
abbrev pub picture_text : Look → MachineFile → List Command → List Entry → Option RefusedMotion →
    WorkOrigin → List ℕ
picture_text look machine commands entries refusal w =
    text_of look machine commands refusal (used commands)
    (shown_sweeps look (used commands) commands entries) w
