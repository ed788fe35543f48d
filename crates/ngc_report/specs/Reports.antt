-- The lines of reports. Our own.
use Rattle.std.specs.Prelude.{ℕ, ◌+◌, ℤ, ◌*ℤ◌, List, [], ◌∷◌, ◌++◌, take, drop, Bool}
use Rattle.std.specs.Prelude.{true, false, not, ◌==◌, length, Option, Some, None, Result, IsTrue}
use Rattle.std.specs.List.{All, list_all}
use Rattle.ngc_fixed_length.specs.Length.{IsStep}
use Rattle.ngc_fixed_length.specs.declared.points.GridBox.{GridBox}
use Rattle.ngc_text.specs.declared.writing.WriteFault.{WriteFault}
use Rattle.ngc_machine_files.specs.Machine.{MachineFile}
use Rattle.ngc_machine_files.specs.MachineRanges.{IsMachine}
use Rattle.ngc_commands.specs.declared.command.Command.{Command}
use Rattle.ngc_certificate_text.specs.Certificate.{Entry}
use Rattle.ngc_certificate_text.specs.Collects.{Collects}
use Rattle.ngc_certificate_text.specs.declared.piece.Piece.{Piece}
use Rattle.ngc_collision.specs.Body.{is_in_travel}
use Rattle.ngc_findings.specs.Clearings.{clearing}
use Rattle.ngc_findings.specs.Extents.{extent, fit_extent, extent_in_travel}
use Rattle.ngc_findings.specs.Nearing.{nearest, nearest_name}
use Rattle.ngc_findings.specs.Rooms.{room, is_inside_on}
use Rattle.ngc_findings.specs.Scenes.{start_scene, scene_at, obstacle}
use Rattle.ngc_findings.specs.Uses.{tool_uses}
use Rattle.ngc_findings.specs.Warnings.{warning_about}
use Rattle.ngc_report.specs.Forms.{report_text}
use Rattle.ngc_report.specs.declared.form.Form.{Form}
use Rattle.ngc_findings.specs.declared.line.Line.{Line}
use Rattle.ngc_findings.specs.declared.line.Line.TheVariants as lines
use Rattle.ngc_findings.specs.declared.nearest.Nearest.{Nearest}
use Rattle.ngc_findings.specs.declared.margins.Axis.{Axis}
use Rattle.ngc_findings.specs.declared.margins.Axis.TheVariants.{X, Y, Z}
use Rattle.ngc_findings.specs.declared.scene.Scene.{Scene}
use Rattle.ngc_findings.specs.declared.travel.AxisSpace.{AxisSpace}
use Rattle.ngc_findings.specs.declared.uses.ToolUse.{ToolUse}
use Rattle.ngc_findings.specs.declared.warnings.Concern.TheVariants.{Untested}

-- the text of lines is added after the collected text; if a write fails, a prefix of both is
-- written
abbrev pub Prints : Form → Option (List ℕ) → Option (List ℕ) → List ℕ → List ℕ →
    Result (Unit {0}) WriteFault → List Line → Type 0
Prints form old new before after result told =
    Collects old new before after result (report_text form told)

-- the extent of a program along each axis
abbrev pub along : Axis → ℤ → ℤ → ℤ → AxisSpace → Line
along axis step low high r =
    lines.Along (record { axis = axis; low = low *ℤ step; high = high *ℤ step; room = r })

abbrev pub alongs : MachineFile → GridBox → List Line
alongs machine b =
    along X machine.step b.low.x b.high.x (room machine b).x
    ∷ along Y machine.step b.low.y b.high.y (room machine b).y ∷
    along Z machine.step b.low.z b.high.z (room machine b).z ∷ []

abbrev pub motions_in : ToolUse → ℕ
motions_in u = u.traverses + u.feeds + u.arcs

-- the nearest fixture, with its name
abbrev pub near_line : MachineFile → Option Nearest → Line
near_line machine n = lines.Near n (nearest_name machine n)

-- Each use, with its nearest fixture. The motions of a certificate belong to the uses' motions in
-- order.
abbrev pub use_lines : MachineFile → List ToolUse → List Entry → List Line
use_lines machine [] motions = []
use_lines machine (u ∷ us) motions =
    lines.Use u ∷ near_line machine (nearest machine u.tool (take (motions_in u) motions))
    ∷ use_lines machine us (drop (motions_in u) motions)

-- ---- reports

-- A program that fits. Without a tool, a motion is tested only for the spindle nose. Without
-- fixtures, it is tested only for the travel.
abbrev pub fit_line : MachineFile → List Command → Line
fit_line machine commands =
    lines.Fits (warning_about machine Untested commands) (not (length machine.fixtures == 0))

-- the lines of a program that fits
abbrev pub fit_lines : MachineFile → List Command → List Entry → List Line
fit_lines machine commands motions =
    fit_line machine commands ∷ (alongs machine (fit_extent machine motions)
    ++ use_lines machine (tool_uses commands) motions)

-- each box of each piece lies within the travel limits
abbrev pub ArePiecesInTravel : MachineFile → List Entry → Type 0
ArePiecesInTravel machine motions =
    All (λ (e : Entry). All (λ (p : Piece). IsTrue (is_in_travel machine p.bounds)) e.pieces)
    motions

-- a line with an extent has no negative margin
abbrev pub is_line_inside : Line → Bool
is_line_inside (lines.Along a) = is_inside_on a.room
is_line_inside _ = true

-- a program that fits never has a negative margin
abbrev pub FitStaysInside : Type 0
FitStaysInside = (machine : MachineFile) (commands : List Command) (motions : List Entry) →
    IsMachine machine → ArePiecesInTravel machine motions →
    IsTrue (list_all is_line_inside (fit_lines machine commands motions))

abbrev pub start_lines : MachineFile → Option ℕ → List Line
start_lines machine fixture =
    lines.Start (start_scene machine) ∷ lines.InTheWay
    (obstacle machine (start_scene machine) fixture) ∷ []

abbrev pub scene_lines : MachineFile → ℕ → Option ℕ → Option Scene → List Line
scene_lines machine k fixture None = []
scene_lines machine k fixture (Some s) =
    lines.Command k s ∷ lines.InTheWay (obstacle machine s fixture)
    ∷ lines.Clear (clearing machine s (obstacle machine s fixture)) ∷ []

abbrev pub cause_lines : MachineFile → List Command → Option ℕ → Option ℕ → List Line
cause_lines machine commands None fixture = start_lines machine fixture
cause_lines machine commands (Some k) fixture =
    scene_lines machine k fixture (scene_at machine commands k)

-- the lines of a program that is refused at a command, or at the start
abbrev pub refusal_lines : MachineFile → List Command → Option ℕ → Option ℕ → List Line
refusal_lines machine commands command fixture =
    lines.Refused
    ∷ (alongs machine (extent machine commands) ++ cause_lines machine commands command fixture)

-- ---- all refused commands

abbrev pub verdict_line : MachineFile → List Command → Bool → List ℕ → Line
verdict_line machine commands false [] = fit_line machine commands
verdict_line machine commands _ _ = lines.Refused

abbrev pub start_lines_if : MachineFile → Bool → List Line
start_lines_if machine false = []
start_lines_if machine true = start_lines machine None

-- the extent of a program at a setting, without a certificate; if nothing is refused, each position
-- lies within the travel
abbrev pub reported_extent : MachineFile → List Command → Bool → List ℕ → GridBox
reported_extent machine commands false [] = extent_in_travel machine commands
reported_extent machine commands _ _ = extent machine commands

-- the lines of a setting at which these commands are refused, and perhaps the start, before those
-- of the commands
abbrev pub refusals_head : MachineFile → List Command → Bool → List ℕ → List Line
refusals_head machine commands start ks =
    verdict_line machine commands start ks
    ∷ (alongs machine (reported_extent machine commands start ks) ++ start_lines_if machine start)

-- a setting at which the program fits never has a negative margin
abbrev pub SettingStaysInside : Type 0
SettingStaysInside = (machine : MachineFile) (commands : List Command) → IsStep machine.step →
    IsTrue (list_all is_line_inside (refusals_head machine commands false []))
