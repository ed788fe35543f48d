-- The lines that are left, after those executed, have the same result as all of them.
use Rattle.std.proofs.Common.{◌≡◌, length}
use Rattle.ngc_canonical.specs.Interpreter.{setup_of}
use Rattle.ngc_dialect_execution.specs.Taken.{waiting_taken}
use Rattle.ngc_dialect_execution.specs.Views.{run_in}
use Rattle.ngc_dialect_execution.proofs.beside.execute_waiting.Given as goal

abbrev pub invariant-loop-rest : goal.invariant-loop-rest
invariant-loop-rest g l =
    waiting_taken (setup_of l.machine l.tools) l.rest (run_in l.run)
    ≡ waiting_taken (setup_of l.machine l.tools) l.fn.waiting (run_in l.fn.run)

abbrev pub decreases-loop-rest : goal.decreases-loop-rest
decreases-loop-rest g l = length l.rest
