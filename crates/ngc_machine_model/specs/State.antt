-- The state of a machine that runs a program. Our own.
use Rattle.std.specs.Prelude.{ℕ, ◌+◌, ◌-◌, ◌*◌, ◌/◌, List, [], length, slice_get, Option, None, Bool}
use Rattle.std.specs.Prelude.{true, false, if◌then◌else◌}
use Rattle.ngc_fixed_length.specs.declared.points.StepPos.{StepPos}
use Rattle.ngc_fixed_length.specs.Grid.{grid}
use Rattle.ngc_commands.specs.declared.command.Command.{Command}
use Rattle.ngc_machine_files.specs.declared.tools.Tool.{Tool}
use Rattle.ngc_machine_files.specs.Machine.{MachineFile}
use Rattle.ngc_planner.specs.Components as planner
use Rattle.ngc_fixed_length.specs.Limits.{MILLION}

-- what the machine runs: a machine file, and the commands of a setting
pub record Job : Type 0 where
  pub machine : MachineFile
  pub commands : List Command

-- a loaded command, and the path that was chosen for it; a command that isn't a motion has no
-- points
pub record Queued : Type 0 where
  pub command : Command
  pub path : List StepPos

pub record State : Type 0 where
  -- the number of commands that are done, and the commands that are loaded and not done
  pub done : ℕ
  pub ring : List Queued
  -- for the first of these, the millionths of a path step that were travelled, or the ticks that
  -- were dwelt
  pub travelled : ℕ
  pub dwelt : ℕ
  pub position : StepPos
  -- the rate of the last tick
  pub rate : ℕ
  -- the change of the motion on which the last tick that travelled began; 0 before the first
  pub change : ℕ
  pub tool : Option Tool
  -- the override in percent, and whether it is on
  pub percent : ℕ
  pub overrides : Bool
  pub held : Bool
  pub stopped : Bool
  pub stop_switch : Bool

abbrev pub opening : MachineFile → State
opening machine = record {
  done = 0;
  ring = [];
  travelled = 0;
  dwelt = 0;
  position = grid machine.step machine.start;
  rate = 0;
  change = 0;
  tool = None;
  percent = 100;
  overrides = true;
  held = false;
  stopped = false;
  stop_switch = false;
}

-- the index of the next command to load, and commands by index
abbrev pub loaded : State → ℕ
loaded s = s.done + length s.ring

abbrev pub command_at : Job → ℕ → Option Command
command_at job k = slice_get job.commands k

-- the number of path steps of a loaded command, and their millionths
abbrev pub path_steps : Queued → ℕ
path_steps l = length l.path - 1

abbrev pub millionths : Queued → ℕ
millionths l = path_steps l * MILLION

-- the change of its rate per tick
abbrev pub change_of : Job → Queued → ℕ
change_of job l = planner.change_of job.machine l.command.action (path_steps l)

-- no motion has less
abbrev pub least_change : Job → ℕ
least_change job = planner.least_change job.machine

-- the position on the head's path
abbrev pub place_before : State → ℕ
place_before s = s.travelled / MILLION

-- the effective percentage
abbrev pub effective : State → ℕ
effective s = if s.overrides then s.percent else 100
