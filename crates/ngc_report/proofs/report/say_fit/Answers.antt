use Rattle.std.proofs.Common.{[], ◌∷◌, ◌++◌}
use Rattle.ngc_machine_files.specs.Machine.{file_of}
use Rattle.ngc_findings.specs.Extents.{fit_extent}
use Rattle.ngc_report.specs.Reports.{alongs, fit_line, use_lines}
use Rattle.ngc_findings.specs.Uses.{tool_uses}
use Rattle.ngc_report.proofs.Sentences.{then_lines}
use Rattle.ngc_report.proofs.report.say_fit.Goals as goal

pub returns : goal.returns
returns g c =
    let m = file_of c.args.machine.now in
    let ms = g.M.MotionList.entries c.args.motions.now in
    let us = tool_uses c.args.commands.now in
    then_lines c.args.form (fit_line m c.args.commands.now ∷ []) (alongs m (fit_extent m ms) ++ use_lines m us ms)
    (rw c.fit_line.ensures at c.say_lines.ensures)
    (then_lines c.args.form (alongs m (fit_extent m ms)) (use_lines m us ms) (rw (c.alongs-sides.ensures, c.fit_extent.ensures) at c.say_lines-2.ensures) c.say_uses.ensures)
