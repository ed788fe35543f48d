use Rattle.std.proofs.Common.{Err, ap, sym, ◌∙◌}
use Rattle.ngc_canonical.specs.Interpreter.{setup_of}
use Rattle.ngc_dialect_execution.specs.declared.fault.Cause.TheVariants as causes
use Rattle.ngc_dialect_execution.specs.Views.{run_in}
use Rattle.ngc_dialect_execution.proofs.FoldSteps.{line_stopped, line_ran}
use Rattle.ngc_dialect_execution.proofs.run.PlainRun.execute_line.Goals as goal

pub returns-in-Err-At : goal.returns-in-Err-At
returns-in-Err-At g c =
    let said = rw c.in-Err-At.field-0-is at c.in-Err-At.ensures in
    line_stopped (setup_of c.args.machine.now c.args.tools.now) c.args.line _ c.as_slice-words.result.now c.args.self.now.words.items (run_in c.args.self.now) _
    c.as_slice-words.ensures.value said
    ∙ ap (λ e. Err (causes.Plain e)) (sym c.in-Err-At.fault-is)

pub returns-in-Ok-keep : goal.returns-in-Ok-keep
returns-in-Ok-keep g c =
    line_ran (setup_of c.args.machine.now c.args.tools.now) c.args.line c.as_slice-words.result.now c.args.self.now.words.items (run_in c.args.self.now) _ _
    c.as_slice-words.ensures.value c.in-Ok.ensures c.in-Ok-keep.ensures
