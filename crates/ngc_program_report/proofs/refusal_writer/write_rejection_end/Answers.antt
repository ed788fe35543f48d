use Rattle.std.proofs.Common.{ap}
use Rattle.ngc_line_reader.specs.ProgramView.{text_in}
use Rattle.ngc_refused_values.specs.Texts.{value_line}
use Rattle.ngc_program_report.specs.Texts.{ending}
use Rattle.ngc_program_report.proofs.WritingLaws.{stops, then, writes_text}
use Rattle.ngc_program_report.proofs.WrittenLaws.{appends_as, begins_as}
use Rattle.ngc_program_report.proofs.refusal_writer.write_rejection_end.Goals as goal

pub returns-in_err-write_named : goal.returns-in_err-write_named
returns-in_err-write_named g c = stops _ _ c.from_residual.ensures.0 c.in_err-write_named.ensures.fault c.in_err-write_named.ensures.counts

pub returns-in_err-write_values : goal.returns-in_err-write_values
returns-in_err-write_values g c =
    let lines = (text_in c.args.program.now).lines in
    let values = ap (λ d. value_line c.args.form d c.args.number c.args.fault.now lines) c.is_on.ensures in
    then _ _ c.in_ok-write_named.ensures.ok c.in_ok-write_named.ensures.counts
    (stops _ _ c.from_residual-in_err-write_values.ensures.0 (begins_as _ _ _ _ values c.in_err-write_values.ensures.fault) c.in_err-write_values.ensures.counts)

pub returns : goal.returns
returns g c =
    let lines = (text_in c.args.program.now).lines in
    let values = ap (λ d. value_line c.args.form d c.args.number c.args.fault.now lines) c.is_on.ensures in
    then _ _ c.in_ok-write_named.ensures.ok c.in_ok-write_named.ensures.counts
    (then _ _ (appends_as _ _ _ _ values c.in_ok-write_values.ensures.ok) c.in_ok-write_values.ensures.counts
    (writes_text _ _ (ap (ending c.args.form) c.number.ensures) c.write_ending.ensures.ok c.write_ending.ensures.fault c.write_ending.ensures.counts))
