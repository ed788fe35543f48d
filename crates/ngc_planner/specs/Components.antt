-- Rates and changes by axis: the greatest rate of a motion on the axes that it may move, and the
-- change of its rate per tick. Our own.
use Rattle.std.specs.Prelude.{◌≡◌, ℕ, ◌*◌, ◌/◌, ◌≤◌, ◌↔◌, min, max, ◌==◌, ℤ, false, Option, Some, None}
use Rattle.std.specs.Prelude.{if◌then◌else◌}
use Rattle.ngc_fixed_length.specs.Grid.{grid, distance}
use Rattle.ngc_fixed_length.specs.Limits.{MILLION}
use Rattle.ngc_fixed_length.specs.declared.modes.Plane.{Plane}
use Rattle.ngc_fixed_length.specs.declared.modes.Plane.TheVariants.{XY, ZX, YZ}
use Rattle.ngc_fixed_length.specs.declared.points.StepPos.{StepPos}
use Rattle.ngc_arc_geometry.specs.Shape.{ArcShape}
use Rattle.ngc_machine_files.specs.Machine.{MachineFile}
use Rattle.ngc_machine_files.specs.MachineRanges.{IsMachine}
use Rattle.ngc_machine_files.specs.declared.machine.AxisLimits.{AxisLimits}
use Rattle.ngc_machine_files.specs.declared.machine.AxisRates.{AxisRates}
use Rattle.ngc_commands.specs.declared.command.Action.{Action}
use Rattle.ngc_commands.specs.declared.command.Action.TheVariants.{Move}
use Rattle.ngc_commands.specs.declared.movement.Way.{Way}
use Rattle.ngc_commands.specs.declared.movement.Way.TheVariants.{Line, Arc}
use Rattle.ngc_planner.specs.declared.axes.Axes.{Axes}
use Rattle.ngc_planner.specs.declared.components.AxisSteps.{AxisSteps}
use Rattle.ngc_planner.specs.Axes.{IsWithinAxes, axes_of, least_rate, with_plane}

-- the grid steps by which two grid points differ on each axis
abbrev pub steps_between : StepPos → StepPos → AxisSteps
steps_between p q =
    record { x = distance p.x q.x; y = distance p.y q.y; z = distance p.z q.z }

abbrev pub steps_along : ℤ → ArcShape → AxisSteps
steps_along step a = steps_between (grid step a.start) (grid step a.end)

-- the two axes of a plane, and what the third axis has
abbrev pub plane_axes : Plane → Axes
plane_axes plane = with_plane plane (record { x = false; y = false; z = false })

abbrev pub third_rate : Plane → AxisRates → ℕ
third_rate XY rates = rates.z
third_rate ZX rates = rates.y
third_rate YZ rates = rates.x

abbrev pub third_steps : Plane → AxisSteps → ℕ
third_steps XY steps = steps.z
third_steps ZX steps = steps.y
third_steps YZ steps = steps.x

-- ---- by component

-- An axis that moves by d of n path steps has the share d / n of a rate: at most this limit. A path
-- has at least as many path steps as its ends differ on an axis.
abbrev pub AxisKeeps : ℕ → ℕ → ℕ → ℕ → Type 0
AxisKeeps limit n d v = v * d ≤ limit * max n d

-- on a line
pub record AxesKeep (limits : AxisRates) (n : ℕ) (steps : AxisSteps) (v : ℕ) : Type 0 where
  pub x : AxisKeeps limits.x n steps.x v
  pub y : AxisKeeps limits.y n steps.y v
  pub z : AxisKeeps limits.z n steps.z v

-- on an arc each axis of its plane has the whole rate somewhere, and the third axis rises evenly
pub record ArcKeeps (limits : AxisRates) (step : ℤ) (a : ArcShape) (n v : ℕ) : Type 0 where
  pub plane : IsWithinAxes limits (plane_axes a.plane) v
  pub third : AxisKeeps (third_rate a.plane limits) n (third_steps a.plane (steps_along step a)) v

-- the rates of a motion of n path steps at which each axis keeps its limit
abbrev pub IsWithinComponents : AxisRates → ℤ → Way → ℕ → ℕ → Type 0
IsWithinComponents limits step (Line b e) n v =
    AxesKeep limits n (steps_between (grid step b) (grid step e)) v
IsWithinComponents limits step (Arc a) n v = ArcKeeps limits step a n v

-- the greatest of them, up to a million
abbrev pub by_component : ℕ → ℕ → ℕ → ℕ
by_component limit n d = if d == 0 then MILLION else min (limit * max n d / d) MILLION

abbrev pub least_component : AxisRates → ℕ → AxisSteps → ℕ
least_component limits n steps =
    min (by_component limits.x n steps.x)
    (min (by_component limits.y n steps.y) (by_component limits.z n steps.z))

abbrev pub component_rate : AxisRates → ℤ → Way → ℕ → ℕ
component_rate limits step (Line b e) n =
    least_component limits n (steps_between (grid step b) (grid step e))
component_rate limits step (Arc a) n =
    min (least_rate limits (plane_axes a.plane))
    (by_component (third_rate a.plane limits) n (third_steps a.plane (steps_along step a)))

-- ---- the rates of a motion

-- Rates of the axes count by component on a machine with limits of each axis. On any other machine
-- each axis that the motion may move allows the whole rate.
abbrev pub MayMoveAlong : Option AxisLimits → AxisRates → ℤ → Way → ℕ → ℕ → Type 0
MayMoveAlong None rates step way n v = IsWithinAxes rates (axes_of step way) v
MayMoveAlong (Some limits) rates step way n v = IsWithinComponents rates step way n v

abbrev pub MayMoveAxes : MachineFile → Action → ℕ → ℕ → Type 0
MayMoveAxes machine (Move m) n v =
    MayMoveAlong machine.own machine.axis_rates machine.step m.way n v
MayMoveAxes machine _ n v = Unit {0}

-- the greatest of them, up to a million
abbrev pub rate_along : Option AxisLimits → AxisRates → ℤ → Way → ℕ → ℕ
rate_along None rates step way n = least_rate rates (axes_of step way)
rate_along (Some limits) rates step way n = component_rate rates step way n

abbrev pub axes_rate : MachineFile → Way → ℕ → ℕ
axes_rate machine way n = rate_along machine.own machine.axis_rates machine.step way n

abbrev pub axes_bound : MachineFile → Action → ℕ → ℕ
axes_bound machine (Move m) n = axes_rate machine m.way n
axes_bound machine _ n = MILLION

-- ---- the change of a motion's rate

-- On a line each axis has its share of the change. On an arc the shares differ from place to place,
-- so each axis that it moves allows the whole change.
abbrev pub IsChangeOfAxes : AxisRates → ℤ → Way → ℕ → ℕ → Type 0
IsChangeOfAxes changes step (Line b e) n c =
    AxesKeep changes n (steps_between (grid step b) (grid step e)) c
IsChangeOfAxes changes step (Arc a) n c = IsWithinAxes changes (axes_of step (Arc a)) c

abbrev pub MayChangeAlong : Option AxisLimits → ℤ → Way → ℕ → ℕ → Type 0
MayChangeAlong None step way n c = Unit {0}
MayChangeAlong (Some limits) step way n c = IsChangeOfAxes limits.changes step way n c

abbrev pub MayChangeAxes : MachineFile → Action → ℕ → ℕ → Type 0
MayChangeAxes machine (Move m) n c = MayChangeAlong machine.own machine.step m.way n c
MayChangeAxes machine _ n c = Unit {0}

-- a change per tick of the rate of a motion of n path steps
pub record MayChange (machine : MachineFile) (action : Action) (n c : ℕ) : Type 0 where
  pub greatest : c ≤ machine.change
  pub axes : MayChangeAxes machine action n c

-- the greatest of them
abbrev pub axes_change : AxisRates → ℤ → Way → ℕ → ℕ
axes_change changes step (Line b e) n =
    least_component changes n (steps_between (grid step b) (grid step e))
axes_change changes step (Arc a) n = least_rate changes (axes_of step (Arc a))

abbrev pub change_along : Option AxisLimits → ℕ → ℤ → Way → ℕ → ℕ
change_along None change step way n = change
change_along (Some limits) change step way n = min change (axes_change limits.changes step way n)

abbrev pub change_of : MachineFile → Action → ℕ → ℕ
change_of machine (Move m) n = change_along machine.own machine.change machine.step m.way n
change_of machine _ n = machine.change

-- the least of the changes that motions have
abbrev pub least_of_changes : Option AxisLimits → ℕ → ℕ
least_of_changes None change = change
least_of_changes (Some limits) change =
    min change (min limits.changes.x (min limits.changes.y limits.changes.z))

abbrev pub least_change : MachineFile → ℕ
least_change machine = least_of_changes machine.own machine.change

-- ---- properties of every machine and action

-- the change of a motion is the greatest that it may have, and at least 1
pub record IsItsChange (machine : MachineFile) (action : Action) (n : ℕ) : Type 0 where
  pub some : 1 ≤ change_of machine action n
  pub greatest : (c : ℕ) → (c ≤ change_of machine action n) ↔ MayChange machine action n c

abbrev pub IsGreatestChange : Type 0
IsGreatestChange =
    (machine : MachineFile) (action : Action) (n : ℕ) → IsMachine machine →
    IsItsChange machine action n

-- and at least the least change, which is at least 1
pub record IsLeastOfChanges (machine : MachineFile) (action : Action) (n : ℕ) : Type 0 where
  pub some : 1 ≤ least_change machine
  pub least : least_change machine ≤ change_of machine action n

abbrev pub IsLeastChange : Type 0
IsLeastChange =
    (machine : MachineFile) (action : Action) (n : ℕ) → IsMachine machine →
    IsLeastOfChanges machine action n

-- without limits of each axis it is the machine's change
abbrev pub IsOneChange : Type 0
IsOneChange =
    (machine : MachineFile) (action : Action) (n : ℕ) → machine.own ≡ None →
    change_of machine action n ≡ machine.change
