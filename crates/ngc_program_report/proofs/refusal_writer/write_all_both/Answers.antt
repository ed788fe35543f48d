use Rattle.ngc_program_report.proofs.WritingLaws.{stops, then}
use Rattle.ngc_program_report.proofs.refusal_writer.write_all_both.Goals as goal

pub returns-in_err-write_setting_refusals : goal.returns-in_err-write_setting_refusals
returns-in_err-write_setting_refusals g c = stops _ _ c.from_residual.ensures.0 c.in_err-write_setting_refusals.ensures.fault c.in_err-write_setting_refusals.ensures.counts

pub returns-in_err-write_setting_refusals-2 : goal.returns-in_err-write_setting_refusals-2
returns-in_err-write_setting_refusals-2 g c =
    then _ _ c.in_ok-write_setting_refusals.ensures.ok c.in_ok-write_setting_refusals.ensures.counts
    (stops _ _ c.from_residual-in_err-write_setting_refusals-2.ensures.0 c.in_err-write_setting_refusals-2.ensures.fault c.in_err-write_setting_refusals-2.ensures.counts)

pub returns : goal.returns
returns g c =
    then _ _ c.in_ok-write_setting_refusals.ensures.ok c.in_ok-write_setting_refusals.ensures.counts
    (then _ _ c.in_ok-write_setting_refusals-2.ensures.ok c.in_ok-write_setting_refusals-2.ensures.counts c.write_misfit_end.ensures)
