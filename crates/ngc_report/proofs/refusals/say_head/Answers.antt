use Rattle.std.proofs.Common.{[], ◌∷◌, ◌++◌}
use Rattle.ngc_machine_files.specs.Machine.{file_of}
use Rattle.ngc_report.specs.Reports.{alongs, reported_extent, start_lines_if, verdict_line}
use Rattle.ngc_report.proofs.Sentences.{then_lines}
use Rattle.ngc_report.proofs.refusals.say_head.Goals as goal

pub returns : goal.returns
returns g c =
    let m = file_of c.args.machine.now in
    let cs = c.args.commands.now in
    let verdict = verdict_line m cs c.args.start c.args.indices.now in
    let sides = alongs m (reported_extent m cs c.args.start c.args.indices.now) in
    let rest = start_lines_if m c.args.start in
    then_lines c.args.form (verdict ∷ []) (sides ++ rest) (rw c.verdict-line.ensures at c.say_lines.ensures)
    (then_lines c.args.form sides rest (rw (c.alongs-sides.ensures, c.reported_extent.ensures) at c.say_lines-2.ensures) c.say_start_if.ensures)
