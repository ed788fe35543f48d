use Rattle.ngc_program_report.proofs.WritingLaws.{stops, then}
use Rattle.ngc_program_report.proofs.refusal_writer.write_all_once.Goals as goal

pub returns-in_err-write_setting_refusals : goal.returns-in_err-write_setting_refusals
returns-in_err-write_setting_refusals g c = stops _ _ c.from_residual.ensures.0 c.in_err-write_setting_refusals.ensures.fault c.in_err-write_setting_refusals.ensures.counts

pub returns : goal.returns
returns g c = then _ _ c.in_ok-write_setting_refusals.ensures.ok c.in_ok-write_setting_refusals.ensures.counts c.write_misfit_end.ensures
