-- The ends of a motion's path, and the commands after the head.
use Rattle.std.proofs.Common.{◌≡◌, ℕ, suc, ◌+◌, ◌-◌, ◌<◌, ap, ◌∙◌, arith, List, ◌∷◌, length}
use Rattle.std.specs.Prelude.{slice_get}
use Rattle.ngc_fixed_length.specs.declared.points.StepPos.{StepPos}
use Rattle.ngc_fixed_length.specs.Grid.{grid, greatest_distance}
use Rattle.ngc_fixed_length.specs.LinePath.{point, IsUnitMove}
use Rattle.ngc_commands.specs.declared.command.Command.{Command}
use Rattle.ngc_commands.specs.Movement.{start_of, end_of}
use Rattle.ngc_commands.specs.declared.movement.Way.{Way}
use Rattle.ngc_commands.specs.declared.movement.Way.TheVariants.{Line, Arc}
use Rattle.ngc_commands.specs.ProgramPath.{IsPathOf}
use Rattle.ngc_machine_model.specs.State.{Job, command_at}

-- the remaining commands after the head
pub next_at : (job : Job) (done : ℕ) (c : Command) (cs : List Command) → ((k : ℕ) → command_at job (done + k) ≡ slice_get (c ∷ cs) k) →
    (k : ℕ) → command_at job (suc done + k) ≡ slice_get cs k
next_at job done c cs f k = let e : suc done + k ≡ done + suc k = omega arith in ap (command_at job) e ∙ f (suc k)

-- a path's number of steps, and its ends
pub record HasEnds (job : Job) (way : Way) (path : List StepPos) : Type 0 where
  pub starts : point path 0 ≡ grid job.machine.step (start_of way)
  pub ends : point path (length path - 1) ≡ grid job.machine.step (end_of way)
  pub unit_moves : (k : ℕ) → k < length path - 1 → IsUnitMove (point path k) (point path (k + 1))

counted_ends : (job : Job) (way : Way) (path : List StepPos) (n : ℕ) → length path ≡ n + 1 → point path 0 ≡ grid job.machine.step (start_of way) →
    point path n ≡ grid job.machine.step (end_of way) → ((k : ℕ) → k < n → IsUnitMove (point path k) (point path (k + 1))) → HasEnds job way path
counted_ends job way path n count starts ends moves =
    let e : length path - 1 ≡ n = omega (arith, count) in
    record { starts = starts; ends = ap (point path) e ∙ ends; unit_moves = λ k h. moves k (omega (arith, h, e)) }

pub has_ends : (job : Job) (way : Way) (path : List StepPos) → IsPathOf job.machine.step way path → HasEnds job way path
has_ends job (Line b e) path w =
    counted_ends job (Line b e) path (greatest_distance (grid job.machine.step b) (grid job.machine.step e)) w.count w.starts w.ends w.unit_moves
has_ends job (Arc a) path w = counted_ends job (Arc a) path w.0 w.1.weak.count w.1.weak.starts w.1.weak.ends w.1.weak.unit_moves
