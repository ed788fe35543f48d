use Rattle.std.proofs.Common.{◌≡◌, length}
use Rattle.ngc_dialect_cycles.specs.Moves.{acting}
use Rattle.ngc_dialect_cycles.specs.Walk.{IsPlan, left}
use Rattle.ngc_dialect_cycles.proofs.moves.CycleMoves.next_move.Given as goal

abbrev pub invariant-loop-taken : goal.invariant-loop-taken
invariant-loop-taken l = record {
  plan : IsPlan l.self-inside.walk.plan;
  left : acting l.self-inside.place (left l.self-inside.walk) ≡ l.fn.self;
}

abbrev pub decreases-loop-taken : goal.decreases-loop-taken
decreases-loop-taken l = length (left l.self-inside.walk)
