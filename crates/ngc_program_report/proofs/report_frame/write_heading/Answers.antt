use Rattle.std.proofs.Common.{ap}
use Rattle.ngc_margins.specs.declared.report_lines.Kept.{Kept}
use Rattle.ngc_program_report.specs.Texts.{heading}
use Rattle.ngc_program_report.proofs.WritingLaws.{writes_as}
use Rattle.ngc_program_report.proofs.report_frame.write_heading.Goals as goal

pub returns : goal.returns
returns g c =
    writes_as c.write_frame.ensures
    (ap (λ (k : Kept). heading c.args.form c.args.origins.now k c.args.heading.first c.args.heading.named c.args.heading.setting) c.by-kept.ensures)
