-- Making the moves of the remaining repeats from here has the same result as making all of them
-- from the beginning, and the frames stay.
use Rattle.std.proofs.Common.{◌≡◌, ◌+◌, ◌-◌}
use Rattle.ngc_canned_cycles.specs.Heights.{repeats_of}
use Rattle.ngc_canonical.specs.Interpreter.{state_of}
use Rattle.ngc_canonical.specs.Cycles.{make_moves, moves_from, all_moves}
use Rattle.ngc_canonical.proofs.state.Interpreter.make_repeats.Given as goal

abbrev pub invariant-loop-index : goal.invariant-loop-index
invariant-loop-index g l = record {
  leads : make_moves (moves_from l.cycle l.start (l.index + 1) (repeats_of l.cycle.repeats - l.index)) (state_of l.self)
      ≡ make_moves (all_moves l.cycle l.start) (state_of l.fn.self);
  frames : (state_of l.self).frames ≡ (state_of l.fn.self).frames;
}
