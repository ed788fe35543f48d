-- The state between two effects of a program.
use Rattle.std.specs.Prelude.{ℕ, ℤ, pos, nat_lt, List, [], ◌∷◌, ◌++◌, length, Option, None, Result}
use Rattle.std.specs.Prelude.{Ok, Err, Bool, true, false, if◌then◌else◌}
use Rattle.ngc_fixed_length.specs.declared.modes.Turn.{Turn}
use Rattle.ngc_fixed_length.specs.declared.points.Point3.{Point3}
use Rattle.ngc_machine_files.specs.Machine.{MachineFile}
use Rattle.ngc_machine_files.specs.MachineRanges.{is_far}
use Rattle.ngc_machine_files.specs.declared.tools.Tool.{Tool}
use Rattle.ngc_modal_state.specs.declared.code.PathControl.{PathControl}
use Rattle.ngc_modal_state.specs.declared.code.PathControl.TheVariants.{ExactStop}
use Rattle.ngc_modal_state.specs.declared.modes.Modes.{Modes}
use Rattle.ngc_modal_state.specs.Start.{start_modes}
use Rattle.ngc_offsets.specs.Offsets.{Offsets}
use Rattle.ngc_offsets.specs.Frames.{start_frames}
use Rattle.ngc_offsets.specs.declared.fault.CoordinateRange.{CoordinateRange}
use Rattle.ngc_offsets.specs.declared.fault.CoordinateRange.TheVariants.{Near, Far}
use Rattle.ngc_parameters.specs.Meaning.{Parameters}
use Rattle.ngc_commands.specs.declared.command.Action.{Action}
use Rattle.ngc_commands.specs.declared.command.Action.TheVariants.{Move}
use Rattle.ngc_commands.specs.declared.command.Command.{Command}
use Rattle.ngc_commands.specs.declared.command.CoolantState.{CoolantState}
use Rattle.ngc_commands.specs.declared.command.CoolantState.TheVariants.{Off}
use Rattle.ngc_canonical.specs.declared.fault.Fault.{Fault}
use Rattle.ngc_commands.specs.declared.movement.Motion.{Motion}
use Rattle.ngc_commands.specs.declared.movement.Pace.{Pace}
use Rattle.ngc_commands.specs.declared.movement.Pace.TheVariants.{Rapid}
use Rattle.ngc_commands.specs.declared.movement.Way.{Way}
use Rattle.ngc_commands.specs.declared.movement.Way.TheVariants.{Line}
use Rattle.ngc_canonical.specs.declared.state.Kept.{Kept}
use Rattle.ngc_canonical.specs.declared.fault.Fault.TheVariants.{TooManyCommands}
use Rattle.ngc_commands.specs.Movement.{end_of}
use Rattle.ngc_commands.specs.Sequence.{COMMAND_LIMIT}
use Rattle.ngc_canonical.specs.Steps.{◌>>=◌}

-- the machine and its tools
pub record Setup : Type 0 where
  pub machine : MachineFile
  pub tools : List Tool

pub record State : Type 0 where
  -- the line that is executed
  pub line : ℕ
  pub modes : Modes
  pub frames : Offsets
  pub parameters : Parameters
  -- where the axes are, in machine coordinates
  pub place : Point3
  -- the feed in force under G94, in nanometres a minute, and the spindle's speed, in millionths
  pub feed : ℕ
  pub speed : ℕ
  -- the direction in which the spindle turns
  pub spindle : Option Turn
  pub coolant : CoolantState
  -- the tool that M6 mounts
  pub selected : ℕ
  -- the words of earlier lines, for a cycle's line that leaves them out
  pub kept : Kept
  -- the machine's height before the series of cycles, if one is in progress
  pub series : Option ℤ
  -- the commands so far, and whether the last is an end
  pub commands : List Command
  pub ended : Bool

-- how far from zero the coordinates of a program may be: farther if the machine's travel is
abbrev pub reach_of : MachineFile → CoordinateRange
reach_of machine = if is_far machine then Far else Near

-- At the start all parameters are 0, feed and speed are 0, spindle and coolant are off, no tool is
-- selected, and the axes are at the machine's start point.
abbrev pub start_state : MachineFile → State
start_state machine = record {
  line = 0;
  modes = start_modes;
  frames = start_frames (reach_of machine) machine.origins;
  parameters = λ k. pos 0;
  place = machine.start;
  feed = 0;
  speed = 0;
  spindle = None;
  coolant = Off;
  selected = 0;
  kept = record { retract = pos 0; bottom = pos 0; dwell = pos 0; peck = pos 0 };
  series = None;
  commands = [];
  ended = false;
}

-- one more command, of the line that is executed
abbrev pub with_command : Action → State → State
with_command action s =
    record s { commands = s.commands ++ record { line = s.line; action = action } ∷ [] }

abbrev pub emit : Action → State → Result State Fault
emit action s = if nat_lt (length s.commands) COMMAND_LIMIT then Ok (with_command action s)
    else Err TooManyCommands

-- a change of frames, plane or tool length, and a motion code that is not a cycle, end the series
-- of cycles
abbrev pub unseries : State → State
unseries s = record s { series = None }

abbrev pub at_place : Point3 → State → State
at_place end s = record s { place = end }

-- the axes stop at the end of each motion in exact stop mode (NISTIR 6556, 3.5.14)
abbrev pub stops_in : PathControl → Bool
stops_in ExactStop = true
stops_in _ = false

abbrev pub motion_in : PathControl → Way → Pace → Motion
motion_in path way pace = record { way = way; pace = pace; stop = stops_in path }

-- a motion, after which the axes are at its end
abbrev pub go : Way → Pace → State → Result State Fault
go way pace s = do
  t ← emit (Move (motion_in s.modes.path way pace)) s
  Ok (at_place (end_of way) t)

-- a traverse to a machine point
abbrev pub traverse_to : Point3 → State → Result State Fault
traverse_to end s = go (Line s.place end) Rapid s
