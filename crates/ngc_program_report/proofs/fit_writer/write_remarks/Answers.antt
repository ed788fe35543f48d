use Rattle.std.proofs.Common.{ap}
use Rattle.ngc_lowest_tips.specs.Texts.{tips_text}
use Rattle.ngc_program_report.proofs.WritingLaws.{stops, then}
use Rattle.ngc_program_report.proofs.WrittenLaws.{appends_as, begins_as}
use Rattle.ngc_program_report.proofs.fit_writer.write_remarks.Goals as goal

pub returns-in_err-write_lowest_tips : goal.returns-in_err-write_lowest_tips
returns-in_err-write_lowest_tips g c =
    let tips = ap (tips_text c.args.subject.now.form) c.requires.tips in
    stops _ _ c.from_residual.ensures.0 (begins_as _ _ _ _ tips c.in_err-write_lowest_tips.ensures.fault) c.in_err-write_lowest_tips.ensures.counts

pub returns : goal.returns
returns g c =
    let tips = ap (tips_text c.args.subject.now.form) c.requires.tips in
    then _ _ (appends_as _ _ _ _ tips c.in_ok-write_lowest_tips.ensures.ok) c.in_ok-write_lowest_tips.ensures.counts c.write_setting_warnings.ensures
