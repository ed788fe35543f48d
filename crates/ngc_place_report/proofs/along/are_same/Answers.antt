use Rattle.std.proofs.Common.{◌≡◌, ◌∙◌, sym}
use Rattle.ngc_place_report.proofs.SamePrograms.{same_of}
use Rattle.ngc_place_report.proofs.along.are_same.Goals as goal

pub returns : goal.returns
returns g c = λ h.
    same_of c.args.job.now c.args.programs.now.off c.args.programs.now.on c.requires (sym c.has_deleted_lines.ensures ∙ c.if-has_deleted_lines.false)
    (c.same_marks.ensures h)
