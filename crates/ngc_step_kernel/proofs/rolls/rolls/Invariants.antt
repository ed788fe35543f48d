use Rattle.std.proofs.Common.{◌≡◌}
use Rattle.ngc_step_kernel.specs.Course.{round_at}
use Rattle.ngc_circle_walk.specs.Rolling.{spoke_at}
use Rattle.ngc_step_kernel.proofs.RollsLemmas.{IsBefore}
use Rattle.ngc_step_kernel.proofs.rolls.rolls.Given as goal

abbrev pub invariant-loop-moves : goal.invariant-loop-moves
invariant-loop-moves g l =
    (g.W.Wheel.place l.wheel ≡ spoke_at l.step l.limit l.fn.first l.moves) × (g.W.Wheel.pace l.wheel ≡ l.step) × (g.W.Wheel.rim l.wheel ≡ l.limit) ×
    (l.last ≡ round_at l.step l.limit l.fn.first l.fn.entry l.moves)
    × IsBefore l.step l.limit l.fn.first l.end l.quadrants l.left l.moves
