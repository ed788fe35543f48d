use Rattle.std.proofs.Common.{sym, ◌∙◌, arith}
use Rattle.std.specs.Prelude.{fold}
use Rattle.std.proofs.lemmas.List.{at_drop_all}
use Rattle.ngc_machine_files.specs.Machine.{file_of}
use Rattle.ngc_findings.specs.Warnings.{lines_of, counted}
use Rattle.ngc_findings.specs.ToolStates.{beginning}
use Rattle.ngc_findings.proofs.CommandCounts.{next_command, all_counted}
use Rattle.ngc_findings.proofs.warnings.warning_about.Goals as goal

pub loop-command-preserved : goal.loop-command-preserved
loop-command-preserved g c = record {
  same =
      rw (c.with_command-found.ensures.value, c.after-before.ensures)
      (next_command (file_of c.args.machine.now) c.args.concern c.loop-command.found c.loop-command.before c.args.commands.now c.loop-command.command-index
      c.command-item.result
      c.loop-command-test.true c.command-item.is ∙ c.loop-command.invariant.same);
  few = omega (arith, c.with_command-found.ensures.few);
}

pub returns : goal.returns
returns g c =
    let m = file_of c.args.machine.now in
    let k = c.args.concern in
    sym (at_drop_all (λ l. fold (counted k) c.loop-command.found (lines_of m k c.loop-command.before l)) c.args.commands.now c.loop-command.command-index
    c.loop-command-test.false)
    ∙ c.loop-command.invariant.same ∙ all_counted k (lines_of m k (beginning m k c.args.commands.now) c.args.commands.now)
