use Rattle.ngc_program_report.proofs.WritingLaws.{stops, then, writes_text}
use Rattle.ngc_program_report.proofs.fit_writer.write_fit_end.Goals as goal

pub returns-in_err-write_shop : goal.returns-in_err-write_shop
returns-in_err-write_shop g c = stops _ _ c.from_residual.ensures.0 c.in_err-write_shop.ensures.fault c.in_err-write_shop.ensures.counts

pub returns : goal.returns
returns g c =
    then _ _ c.in_ok-write_shop.ensures.ok c.in_ok-write_shop.ensures.counts
    (writes_text _ _ c.closing.ensures c.write_all.ensures.ok c.write_all.ensures.fault c.write_all.ensures.counts)
