-- Executing the remaining parts, with the words begun, has the same result as executing all of them.
use Rattle.std.proofs.Common.{◌≡◌, ◌≤◌, length}
use Rattle.ngc_canonical.specs.Interpreter.{setup_of}
use Rattle.ngc_dialect_execution.specs.Executed.{lines_at, run}
use Rattle.ngc_dialect_execution.specs.Views.{run_in}
use Rattle.ngc_dialect_execution.proofs.FoldSteps.{left}
use Rattle.ngc_dialect_execution.proofs.run.PlainRun.execute.Given as goal

abbrev pub invariant-loop-part : goal.invariant-loop-part
invariant-loop-part g l = record {
  words : length l.self.words.items ≤ l.part-index;
  leads : left (setup_of l.machine l.tools) l.line l.part-items l.part-index l.self.words.items (run_in l.self)
      ≡ run (setup_of l.machine l.tools) (lines_at l.line l.part-items) (run_in l.fn.self);
}
