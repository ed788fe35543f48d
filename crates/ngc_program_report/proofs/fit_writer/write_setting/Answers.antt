use Rattle.ngc_program_report.proofs.WritingLaws.{stops, then}
use Rattle.ngc_program_report.proofs.fit_writer.write_setting.Goals as goal

pub returns-in_err-write_front : goal.returns-in_err-write_front
returns-in_err-write_front g c = stops _ _ c.from_residual.ensures.0 c.in_err-write_front.ensures.fault c.in_err-write_front.ensures.counts

pub returns-in_err-write_fit : goal.returns-in_err-write_fit
returns-in_err-write_fit g c =
    then _ _ c.in_ok-write_front.ensures.ok c.in_ok-write_front.ensures.counts (stops _ _ c.from_residual-in_err-write_fit.ensures.0 c.in_err-write_fit.ensures.fault c.in_err-write_fit.ensures.counts)

pub returns-in_err-write_duration : goal.returns-in_err-write_duration
returns-in_err-write_duration g c =
    then _ _ c.in_ok-write_front.ensures.ok c.in_ok-write_front.ensures.counts
    (then _ _ c.in_ok-write_fit.ensures.ok c.in_ok-write_fit.ensures.counts
    (stops _ _ c.from_residual-in_err-write_duration.ensures.0 c.in_err-write_duration.ensures.fault c.in_err-write_duration.ensures.counts))

pub returns : goal.returns
returns g c =
    then _ _ c.in_ok-write_front.ensures.ok c.in_ok-write_front.ensures.counts
    (then _ _ c.in_ok-write_fit.ensures.ok c.in_ok-write_fit.ensures.counts
    (then _ _ c.in_ok-write_duration.ensures.ok c.in_ok-write_duration.ensures.counts (then _ _ c.in_ok-write_remarks.ensures.ok c.in_ok-write_remarks.ensures.counts c.write_stock.ensures)))

pub returns-in_err-write_remarks : goal.returns-in_err-write_remarks
returns-in_err-write_remarks g c =
    then _ _ c.in_ok-write_front.ensures.ok c.in_ok-write_front.ensures.counts
    (then _ _ c.in_ok-write_fit.ensures.ok c.in_ok-write_fit.ensures.counts
    (then _ _ c.in_ok-write_duration.ensures.ok c.in_ok-write_duration.ensures.counts
    (stops _ _ c.from_residual-in_err-write_remarks.ensures.0 c.in_err-write_remarks.ensures.fault c.in_err-write_remarks.ensures.counts)))
