-- The obstacle of a command. Our own.
use Rattle.std.specs.Prelude.{◌≡◌, ◌≤◌, length, ℕ, ℤ, pos, ◌-ℤ◌, ◌*ℤ◌, int_le, List, take}
use Rattle.std.specs.Prelude.{slice_get, Option, Some, None, option_map, option_and_then}
use Rattle.std.specs.Prelude.{if◌then◌else◌}
use Rattle.ngc_fixed_length.specs.Boxes.{only}
use Rattle.ngc_fixed_length.specs.Grid.{grid}
use Rattle.ngc_fixed_length.specs.declared.points.Point3.{Point3}
use Rattle.ngc_fixed_length.specs.declared.points.StepPos.{StepPos}
use Rattle.ngc_machine_files.specs.Machine.{MachineFile}
use Rattle.ngc_machine_files.specs.declared.machine.Fixture.{Fixture}
use Rattle.ngc_machine_files.specs.declared.tools.Tool.{Tool}
use Rattle.ngc_commands.specs.Movement.{start_of, end_of}
use Rattle.ngc_commands.specs.Reached.{after_all, at_start}
use Rattle.ngc_commands.specs.declared.reached.Reached.{Reached}
use Rattle.ngc_commands.specs.declared.command.Action.{Action}
use Rattle.ngc_commands.specs.declared.command.Action.TheVariants.{Move, Mount}
use Rattle.ngc_commands.specs.declared.command.Command.{Command}
use Rattle.ngc_commands.specs.declared.movement.Motion.{Motion}
use Rattle.ngc_collision.specs.Body.{first_met}
use Rattle.ngc_collision.specs.declared.solid.Place.{Place}
use Rattle.ngc_findings.specs.Extents.{reach, reach_in_pieces}
use Rattle.ngc_findings.specs.Margins.{tightest}
use Rattle.ngc_findings.specs.Rooms.{room, is_inside}
use Rattle.ngc_findings.specs.declared.scene.Obstacle.{Obstacle}
use Rattle.ngc_findings.specs.declared.scene.Obstacle.TheVariants as obstacles
use Rattle.ngc_findings.specs.declared.scene.Scene.{Scene}
use Rattle.ngc_findings.specs.declared.standing.Standing.{Standing}

-- the machine's state after commands
abbrev pub standing : MachineFile → List Command → Reached
standing machine commands = after_all (at_start machine) commands

-- the position of a grid point, in nanometres
abbrev pub lying : ℤ → StepPos → Place
lying step p = record { x = p.x *ℤ step; y = p.y *ℤ step; z = p.z *ℤ step }

-- the position to which the machine moves for a point of the program: the nearest grid point
abbrev pub reached_at : MachineFile → Point3 → Place
reached_at machine p = lying machine.step (grid machine.step p)

-- the axes stand still
abbrev pub still : MachineFile → ℕ → Option Tool → Point3 → Scene
still machine line tool place =
    record {
      line = line;
      from = reached_at machine place;
      to = reached_at machine place;
      tool = tool;
      bounds = only (grid machine.step place);
      in_pieces = only (grid machine.step place);
    }

abbrev pub moving : MachineFile → ℕ → Option Tool → Motion → Scene
moving machine line tool m =
    record {
      line = line;
      from = reached_at machine (start_of m.way);
      to = reached_at machine (end_of m.way);
      tool = tool;
      bounds = reach machine.step m.way;
      in_pieces = reach_in_pieces machine.step m.way;
    }

abbrev pub start_scene : MachineFile → Scene
start_scene machine = still machine 0 None machine.start

-- a motion with the tool that is mounted then, and a tool change with the new tool
abbrev pub scene_by : MachineFile → Reached → ℕ → Action → Option Scene
scene_by machine s line (Move m) = Some (moving machine line s.tool m)
scene_by machine s line (Mount tool) = Some (still machine line tool s.place)
scene_by machine s line _ = None

abbrev pub scene_of : MachineFile → Reached → Command → Option Scene
scene_of machine s c = scene_by machine s c.line c.action

-- the scene of command `k`
abbrev pub scene_at : MachineFile → List Command → ℕ → Option Scene
scene_at machine commands k =
    option_and_then (scene_of machine (standing machine (take k commands))) (slice_get commands k)

-- the height of the lowest end of a tool above the spindle nose
abbrev pub foot : Option Tool → ℤ
foot None = pos 0
foot (Some tool) = tool.bottom

-- the lowest height at which the whole tool is over a fixture
abbrev pub over_height : Option Tool → Fixture → ℤ
over_height tool f = f.high.z -ℤ foot tool

-- that height, if it is within the travel
abbrev pub over : MachineFile → Option Tool → Fixture → Option ℤ
over machine tool f =
    if int_le (over_height tool f) machine.high.z then Some (over_height tool f) else None

-- a fixture by its number
abbrev pub named : MachineFile → Option Tool → ℕ → Option Obstacle
named machine tool i =
    option_map (λ f. obstacles.Fixture
    (record { number = i; fixture = f; over = over machine tool f }))
    (slice_get machine.fixtures i)

-- The fixture that is named. Otherwise the side of the travel that the motion in pieces leaves, or
-- the first fixture that is met over the motion in one piece.
abbrev pub obstacle : MachineFile → Scene → Option ℕ → Option Obstacle
obstacle machine scene (Some i) = named machine scene.tool i
obstacle machine scene None =
    if is_inside (room machine scene.in_pieces)
    then option_and_then (named machine scene.tool) (first_met machine scene.tool scene.bounds)
    else Some (obstacles.Travel (tightest (room machine scene.in_pieces)))

-- the machine's state after the first of these commands
pub record StandsAfter (machine : MachineFile) (commands : List Command) (s : Standing) :
    Type 0 where
  pub within : s.count ≤ length commands
  pub stands : s.reached ≡ standing machine (take s.count commands)
