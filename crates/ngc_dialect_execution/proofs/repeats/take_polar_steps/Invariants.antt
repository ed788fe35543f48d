-- The lines that are left, after those taken, have the same result as all of them.
use Rattle.std.proofs.Common.{◌≡◌}
use Rattle.ngc_canonical.specs.Interpreter.{setup_of}
use Rattle.ngc_dialect_execution.specs.Taken.{polar_steps_taken}
use Rattle.ngc_dialect_execution.specs.Views.{between_of}
use Rattle.ngc_dialect_execution.proofs.repeats.take_polar_steps.Given as goal

abbrev pub invariant-loop-left : goal.invariant-loop-left
invariant-loop-left g l =
    polar_steps_taken (setup_of l.machine l.tools) l.line l.polar l.words l.left (between_of l.interpreter)
    ≡ polar_steps_taken (setup_of l.machine l.tools) l.line l.polar l.words l.polar.count (between_of l.fn.interpreter)

abbrev pub decreases-loop-left : goal.decreases-loop-left
decreases-loop-left g l = l.left
