-- Performing the remaining effects from here has the same result as performing all of them from the
-- beginning.
use Rattle.std.proofs.Common.{◌≡◌, drop}
use Rattle.ngc_canonical.specs.Interpreter.{setup_of, state_of}
use Rattle.ngc_canonical.specs.Perform.{run}
use Rattle.ngc_canonical.proofs.state.Interpreter.run.Given as goal

abbrev pub invariant-loop-effect : goal.invariant-loop-effect
invariant-loop-effect g l =
    run (setup_of l.machine l.tools) (drop l.effect-index l.effects) (state_of l.self) ≡ run (setup_of l.machine l.tools) l.effects (state_of l.fn.self)
