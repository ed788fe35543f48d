-- The lines that are left, after those taken, have the same result as all of them.
use Rattle.std.proofs.Common.{◌≡◌}
use Rattle.ngc_canonical.specs.Interpreter.{setup_of}
use Rattle.ngc_dialect_execution.specs.Taken.{turns_taken}
use Rattle.ngc_dialect_execution.specs.Views.{between_of}
use Rattle.ngc_dialect_execution.proofs.repeats.take_turns.Given as goal

abbrev pub invariant-loop-left : goal.invariant-loop-left
invariant-loop-left g l =
    turns_taken (setup_of l.machine l.tools) l.line l.turning l.words l.left (between_of l.interpreter)
    ≡ turns_taken (setup_of l.machine l.tools) l.line l.turning l.words l.turning.count (between_of l.fn.interpreter)

abbrev pub decreases-loop-left : goal.decreases-loop-left
decreases-loop-left g l = l.left
