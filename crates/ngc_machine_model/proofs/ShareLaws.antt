-- The shares of the axes on the path of a line.
use Rattle.std.proofs.Common.{◌≡◌, ℕ, ◌-◌, ◌*◌, ◌≤◌, max, subst, arith, List, length, ℤ}
use Rattle.ngc_fixed_length.specs.Grid.{grid}
use Rattle.ngc_fixed_length.specs.declared.points.Point3.{Point3}
use Rattle.ngc_fixed_length.specs.declared.points.StepPos.{StepPos}
use Rattle.ngc_machine_files.specs.declared.machine.AxisRates.{AxisRates}
use Rattle.ngc_commands.specs.ProgramPath.{IsPathOf}
use Rattle.ngc_commands.specs.declared.command.Action.TheVariants.{Move}
use Rattle.ngc_commands.specs.declared.movement.Way.{Way}
use Rattle.ngc_commands.specs.declared.movement.Way.TheVariants.{Line}
use Rattle.ngc_planner.specs.Components.{AxisKeeps, AxesKeep, IsWithinComponents, IsChangeOfAxes, MayMoveAlong, MayChangeAlong, steps_between, change_of}
use Rattle.ngc_planner.specs.declared.components.AxisSteps.{AxisSteps}
use Rattle.ngc_planner.proofs.ComponentLaws.{greatest_change}
use Rattle.ngc_machine_model.specs.Shares.{KeepsShare, LinesKeepShares}

-- the path has at least as many path steps as the axis moves
share : (limit n d v : ℕ) → d ≤ n → AxisKeeps limit n d v → v * d ≤ limit * n
share limit n d v less keeps = let same : max n d ≡ n = omega (arith, less) in subst (λ k. v * d ≤ limit * k) same keeps

-- each axis of a line
record IsLong (n : ℕ) (steps : AxisSteps) : Type 0 where
  x : steps.x ≤ n
  y : steps.y ≤ n
  z : steps.z ≤ n

long_line : (step : ℤ) (b e : Point3) (path : List StepPos) → IsPathOf step (Line b e) path → IsLong (length path - 1) (steps_between (grid step b) (grid step e))
long_line step b e path l =
    let count = l.count in
    record { x = omega (arith, count); y = omega (arith, count); z = omega (arith, count) }

shares : (rates changes : AxisRates) (n : ℕ) (steps : AxisSteps) (v c : ℕ) → IsLong n steps → AxesKeep rates n steps v → AxesKeep changes n steps c →
    KeepsShare rates.x changes.x n steps.x v c × KeepsShare rates.y changes.y n steps.y v c × KeepsShare rates.z changes.z n steps.z v c
shares rates changes n steps v c long r k = (
  record { rate = share rates.x n steps.x v long.x r.x; change = share changes.x n steps.x c long.x k.x },
  record { rate = share rates.y n steps.y v long.y r.y; change = share changes.y n steps.y c long.y k.y },
  record { rate = share rates.z n steps.z v long.z r.z; change = share changes.z n steps.z c long.z k.z },
)

pub lines_keep_shares : LinesKeepShares
lines_keep_shares job limits m b e path v machine some is take within =
    let step = job.machine.step in
    let n = length path - 1 in
    let rates = job.machine.axis_rates in
    let c = change_of job.machine (Move m) n in
    let may = ((greatest_change job.machine (Move m) n machine).greatest c).0 (omega arith) in
    let moves = subst (λ (w : Way). IsWithinComponents rates step w n v) is (subst (λ o. MayMoveAlong o rates step m.way n v) some within.axes) in
    let changes = subst (λ (w : Way). IsChangeOfAxes limits.changes step w n c) is (subst (λ o. MayChangeAlong o step m.way n c) some may.axes) in
    let long = long_line step b e path (subst (λ (w : Way). IsPathOf step w path) is take) in
    let each = shares rates limits.changes n (steps_between (grid step b) (grid step e)) v c long moves changes in
    record { x = each.0; y = each.1; z = each.2 }
