use Rattle.ngc_program_report.proofs.WritingLaws.{stops, then}
use Rattle.ngc_program_report.proofs.fit_writer.write_front.Goals as goal

pub returns-in_err-write_heading : goal.returns-in_err-write_heading
returns-in_err-write_heading g c = stops _ _ c.from_residual.ensures.0 c.in_err-write_heading.ensures.fault c.in_err-write_heading.ensures.counts

pub returns : goal.returns
returns g c =
    then _ _ c.in_ok-write_heading.ensures.ok c.in_ok-write_heading.ensures.counts
    (record { ok = c.write_caution.ensures.ok; fault = c.write_caution.ensures.fault; counts = c.write_caution.ensures.counts })
