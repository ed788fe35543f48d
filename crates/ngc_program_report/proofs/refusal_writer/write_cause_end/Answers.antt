use Rattle.ngc_program_report.proofs.WritingLaws.{stops, then}
use Rattle.ngc_program_report.proofs.refusal_writer.write_cause_end.Goals as goal

pub returns-in_err-write_refused_line : goal.returns-in_err-write_refused_line
returns-in_err-write_refused_line g c = stops _ _ c.from_residual.ensures.0 c.in_err-write_refused_line.ensures.fault c.in_err-write_refused_line.ensures.counts

pub returns : goal.returns
returns g c = then _ _ c.in_ok-write_refused_line.ensures.ok c.in_ok-write_refused_line.ensures.counts c.write_coordinates.ensures
