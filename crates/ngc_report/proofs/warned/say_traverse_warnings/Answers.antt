use Rattle.ngc_machine_files.specs.Machine.{file_of}
use Rattle.ngc_findings.specs.Warnings.{warned}
use Rattle.ngc_findings.specs.declared.warnings.Concern.TheVariants.{LowAcross, LowHome}
use Rattle.ngc_report.proofs.Sentences.{then_lines}
use Rattle.ngc_report.proofs.warned.say_traverse_warnings.Goals as goal

pub returns : goal.returns
returns g c =
    let m = file_of c.args.machine.now in
    let cs = c.args.commands.now in
    then_lines c.args.form (warned m LowHome cs) (warned m LowAcross cs) c.say_warned.ensures c.say_warned-2.ensures
