use Rattle.std.proofs.Common.{◌∙◌, None, arith}
use Rattle.ngc_machine_files.specs.Machine.{file_of}
use Rattle.ngc_commands.specs.declared.reached.Reached.{Reached}
use Rattle.ngc_findings.proofs.Causes.{gone_further}
use Rattle.ngc_findings.proofs.standing.Standing.at.Goals as goal

pub returns-clause-reached : goal.returns-clause-reached
returns-clause-reached g c =
    let start : Reached = record { tool = None; place = (file_of c.args.machine.now).start } in
    c.after_all-reached.ensures
    ∙ gone_further start c.args.self.now.reached c.args.commands.now c.args.self.now.count c.args.count
    (omega (arith, c.if-count-self.false)) c.requires.last.stands

pub returns-clause-stands : goal.returns-clause-stands
returns-clause-stands g c =
    let start : Reached = record { tool = None; place = (file_of c.args.machine.now).start } in
    record {
      within = c.requires.count;
      stands =
          c.after_all-reached.ensures
          ∙ gone_further start c.args.self.now.reached c.args.commands.now c.args.self.now.count c.args.count
          (omega (arith, c.if-count-self.false)) c.requires.last.stands;
    }
