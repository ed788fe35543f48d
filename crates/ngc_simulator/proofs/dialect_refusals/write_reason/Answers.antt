use Rattle.std.proofs.Common.{ap}
use Rattle.ngc_text.proofs.AppendedTexts.{appends_both}
use Rattle.ngc_program_report.specs.Texts.{ending}
use Rattle.ngc_program_report.proofs.WrittenLaws.{appends_as, begins_as, begins_first, begins_last, err_weaker, ok_weaker, on_err}
use Rattle.ngc_simulator.proofs.dialect_refusals.write_reason.Goals as goal

pub returns-in_err-write_cause-clause-fault : goal.returns-in_err-write_cause-clause-fault
returns-in_err-write_cause-clause-fault g c =
    on_err _ _ (begins_first _ _ _ _ (rw (c.reason_start.ensures, c.reason_end.ensures) at c.in_err-write_cause.ensures.fault))

pub returns-clause-ok : goal.returns-clause-ok
returns-clause-ok g c =
    let is = ap (λ n. ending c.args.form n) c.number.ensures in
    ok_weaker c.write_ending.result _ _
    (λ wrote. appends_both _ _ _ _ _ (rw (c.reason_start.ensures, c.reason_end.ensures) at c.in_ok-write_cause.ensures.ok) (appends_as _ _ _ _ is wrote))
    c.write_ending.ensures.ok

pub returns-clause-fault : goal.returns-clause-fault
returns-clause-fault g c =
    let is = ap (λ n. ending c.args.form n) c.number.ensures in
    err_weaker c.write_ending.result _ _
    (λ wrote. begins_last _ _ _ _ _ (rw (c.reason_start.ensures, c.reason_end.ensures) at c.in_ok-write_cause.ensures.ok) (begins_as _ _ _ _ is wrote))
    c.write_ending.ensures.fault
