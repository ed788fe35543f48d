use Rattle.std.proofs.Common.{◌++◌}
use Rattle.ngc_machine_files.specs.Machine.{file_of}
use Rattle.ngc_findings.specs.Warnings.{motion_lines, warned}
use Rattle.ngc_findings.specs.declared.warnings.Concern.TheVariants.{IdleSpindle, NoTool}
use Rattle.ngc_report.proofs.Sentences.{then_lines}
use Rattle.ngc_report.proofs.warned.say_warnings.Goals as goal

pub returns : goal.returns
returns g c =
    let m = file_of c.args.machine.now in
    let cs = c.args.commands.now in
    then_lines c.args.form (warned m NoTool cs) (warned m IdleSpindle cs ++ motion_lines m c.args.speeds cs) c.say_warned.ensures
    (then_lines c.args.form (warned m IdleSpindle cs) (motion_lines m c.args.speeds cs) c.say_warned-2.ensures c.say_motion_warnings.ensures)
