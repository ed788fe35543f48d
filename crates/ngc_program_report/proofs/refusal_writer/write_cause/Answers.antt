use Rattle.std.proofs.Common.{◌++◌, ◌∙◌, ap}
use Rattle.ngc_program_report.specs.Coordinates.{coordinates_text}
use Rattle.ngc_program_report.specs.Reported.{reported}
use Rattle.ngc_program_report.specs.Texts.{quoted_if, refused_number}
use Rattle.ngc_program_report.proofs.WritingLaws.{stops, then, writes_as}
use Rattle.ngc_program_report.proofs.refusal_writer.write_cause.Goals as goal

pub returns-in_err-write_refusal : goal.returns-in_err-write_refusal
returns-in_err-write_refusal g c = stops _ _ c.from_residual.ensures.0 c.in_err-write_refusal.ensures.fault c.in_err-write_refusal.ensures.counts

pub returns-in_err-write_demanded : goal.returns-in_err-write_demanded
returns-in_err-write_demanded g c =
    then _ _ c.in_ok-write_refusal.ensures.ok c.in_ok-write_refusal.ensures.counts
    (stops _ _ c.from_residual-in_err-write_demanded.ensures.0 c.in_err-write_demanded.ensures.fault c.in_err-write_demanded.ensures.counts)

pub returns : goal.returns
returns g c =
    let form = c.args.subject.now.form in
    let origins = c.args.subject.now.origins.now in
    let lines = (reported c.args.subject.now.text.now).quoted in
    let is = ap (λ n. quoted_if form n lines ++ coordinates_text form origins c.args.frame.now c.refused_path-way.result) c.refused_number-number.ensures
    ∙ ap (λ w. quoted_if form (refused_number c.args.commands.now c.args.told) lines ++ coordinates_text form origins c.args.frame.now w)
    c.refused_path-way.ensures in
    then _ _ c.in_ok-write_refusal.ensures.ok c.in_ok-write_refusal.ensures.counts
    (then _ _ c.in_ok-write_demanded.ensures.ok c.in_ok-write_demanded.ensures.counts (writes_as c.write_cause_end.ensures is))
