use Rattle.ngc_program_report.proofs.WritingLaws.{stops, then, written}
use Rattle.ngc_program_report.proofs.refusal_writer.write_misfit_end.Goals as goal

pub returns-in_err-write_shop : goal.returns-in_err-write_shop
returns-in_err-write_shop g c = stops _ _ c.from_residual.ensures.0 c.in_err-write_shop.ensures.fault c.in_err-write_shop.ensures.counts

pub returns : goal.returns
returns g c =
    then _ _ c.in_ok-write_shop.ensures.ok c.in_ok-write_shop.ensures.counts (written c.write_ending.ensures.ok c.write_ending.ensures.fault c.write_ending.ensures.counts)
