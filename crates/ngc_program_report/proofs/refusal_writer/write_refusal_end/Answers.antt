use Rattle.ngc_program_report.proofs.WritingLaws.{stops, then}
use Rattle.ngc_program_report.proofs.refusal_writer.write_refusal_end.Goals as goal

pub returns-in_err-write_setting_warnings : goal.returns-in_err-write_setting_warnings
returns-in_err-write_setting_warnings g c = stops _ _ c.from_residual.ensures.0 c.in_err-write_setting_warnings.ensures.fault c.in_err-write_setting_warnings.ensures.counts

pub returns : goal.returns
returns g c = then _ _ c.in_ok-write_setting_warnings.ensures.ok c.in_ok-write_setting_warnings.ensures.counts c.write_misfit_end.ensures
