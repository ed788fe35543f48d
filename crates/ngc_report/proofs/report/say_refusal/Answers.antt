use Rattle.std.proofs.Common.{[], ◌∷◌, ◌++◌}
use Rattle.ngc_machine_files.specs.Machine.{file_of}
use Rattle.ngc_findings.specs.Extents.{extent}
use Rattle.ngc_report.specs.Reports.{alongs, cause_lines}
use Rattle.ngc_findings.specs.declared.line.Line.TheVariants.{Refused}
use Rattle.ngc_report.proofs.Sentences.{then_lines}
use Rattle.ngc_report.proofs.report.say_refusal.Goals as goal

pub returns : goal.returns
returns g c =
    let m = file_of c.args.machine.now in
    let sides = alongs m (extent m c.args.commands.now) in
    let rest = cause_lines m c.args.commands.now c.args.command c.args.fixture in
    then_lines c.args.form (Refused ∷ []) (sides ++ rest) c.say_lines.ensures
    (then_lines c.args.form sides rest (rw (c.alongs-sides.ensures, c.extent.ensures) at c.say_lines-2.ensures) c.say_cause.ensures)
