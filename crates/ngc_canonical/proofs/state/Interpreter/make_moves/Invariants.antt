-- Making the remaining moves from here has the same result as making all of them from the
-- beginning, and the frames stay.
use Rattle.std.proofs.Common.{◌≡◌, drop}
use Rattle.ngc_canonical.specs.Interpreter.{state_of}
use Rattle.ngc_canonical.specs.Cycles.{make_moves}
use Rattle.ngc_canonical.proofs.state.Interpreter.make_moves.Given as goal

abbrev pub invariant-loop-step : goal.invariant-loop-step
invariant-loop-step g l = record {
  leads : make_moves (drop l.step-index l.moves) (state_of l.self) ≡ make_moves l.moves (state_of l.fn.self);
  frames : (state_of l.self).frames ≡ (state_of l.fn.self).frames;
}
