-- The shares of the axes on a line, on a machine with limits of each axis. Our own.
use Rattle.std.specs.Prelude.{◌≡◌, ℕ, ◌-◌, ◌*◌, ◌≤◌, List, length, Some}
use Rattle.ngc_fixed_length.specs.Grid.{grid}
use Rattle.ngc_fixed_length.specs.declared.points.Point3.{Point3}
use Rattle.ngc_fixed_length.specs.declared.points.StepPos.{StepPos}
use Rattle.ngc_machine_files.specs.Machine.{MachineFile}
use Rattle.ngc_machine_files.specs.MachineRanges.{IsMachine}
use Rattle.ngc_machine_files.specs.declared.machine.AxisLimits.{AxisLimits}
use Rattle.ngc_commands.specs.declared.command.Action.TheVariants.{Move}
use Rattle.ngc_commands.specs.declared.movement.Motion.{Motion}
use Rattle.ngc_commands.specs.declared.movement.Way.TheVariants.{Line}
use Rattle.ngc_planner.specs.Bounds.{IsWithinBounds}
use Rattle.ngc_planner.specs.Components.{steps_between, change_of}
use Rattle.ngc_planner.specs.declared.components.AxisSteps.{AxisSteps}
use Rattle.ngc_machine_model.specs.State.{Job}
use Rattle.ngc_machine_model.specs.Step.{MayTake}

-- An axis moves by d of the n path steps of a line. Its share of the rate v is at most its own
-- greatest rate, and its share of the change c at most its own greatest change.
pub record KeepsShare (most_rate most_change n d v c : ℕ) : Type 0 where
  pub rate : v * d ≤ most_rate * n
  pub change : c * d ≤ most_change * n

pub record KeepShares (machine : MachineFile) (limits : AxisLimits) (n : ℕ) (steps : AxisSteps)
    (v c : ℕ) : Type 0 where
  pub x : KeepsShare machine.axis_rates.x limits.changes.x n steps.x v c
  pub y : KeepsShare machine.axis_rates.y limits.changes.y n steps.y v c
  pub z : KeepsShare machine.axis_rates.z limits.changes.z n steps.z v c

-- every path of a line, at a rate within its bounds and with the change of the motion
abbrev pub LinesKeepShares : Type 0
LinesKeepShares =
    (job : Job) (limits : AxisLimits) (m : Motion) (b e : Point3) (path : List StepPos) (v : ℕ) →
    IsMachine job.machine → job.machine.own ≡ Some limits → m.way ≡ Line b e →
    MayTake job (Move m) path → IsWithinBounds job.machine (Move m) (length path - 1) v →
    KeepShares job.machine limits (length path - 1)
    (steps_between (grid job.machine.step b) (grid job.machine.step e)) v
    (change_of job.machine (Move m) (length path - 1))
