use Rattle.ngc_text.proofs.AppendedTexts.{appends_both}
use Rattle.ngc_program_report.proofs.WrittenLaws.{appends_as, begins_as, begins_first, begins_last, err_weaker, ok_weaker, on_err}
use Rattle.ngc_program_report.proofs.refusal_writer.write_rejection.Goals as goal

pub returns-in_err-write_early_heading-clause-fault : goal.returns-in_err-write_early_heading-clause-fault
returns-in_err-write_early_heading-clause-fault g c = on_err _ _ (begins_first _ _ _ _ c.in_err-write_early_heading.ensures.fault)

pub returns-in_err-write_all-clause-fault : goal.returns-in_err-write_all-clause-fault
returns-in_err-write_all-clause-fault g c =
    on_err _ _ (begins_last _ _ _ _ _ c.in_ok-write_early_heading.ensures.ok
    (begins_first _ _ _ _ (begins_as _ _ _ _ c.refused_line.ensures c.in_err-write_all.ensures.fault)))

pub returns-in_err-write_line-clause-fault : goal.returns-in_err-write_line-clause-fault
returns-in_err-write_line-clause-fault g c =
    on_err _ _ (begins_last _ _ _ _ _ c.in_ok-write_early_heading.ensures.ok
    (begins_last _ _ _ _ _ (appends_as _ _ _ _ c.refused_line.ensures c.in_ok-write_all.ensures.ok) (begins_first _ _ _ _ c.in_err-write_line.ensures.fault)))

pub returns-clause-ok : goal.returns-clause-ok
returns-clause-ok g c =
    ok_weaker c.write_rejection_end.result _ _
    (λ wrote. appends_both _ _ _ _ _ c.in_ok-write_early_heading.ensures.ok
    (appends_both _ _ _ _ _ (appends_as _ _ _ _ c.refused_line.ensures c.in_ok-write_all.ensures.ok)
    (appends_both _ _ _ _ _ c.in_ok-write_line.ensures.ok wrote)))
    c.write_rejection_end.ensures.ok

pub returns-clause-fault : goal.returns-clause-fault
returns-clause-fault g c =
    err_weaker c.write_rejection_end.result _ _
    (λ wrote. begins_last _ _ _ _ _ c.in_ok-write_early_heading.ensures.ok
    (begins_last _ _ _ _ _ (appends_as _ _ _ _ c.refused_line.ensures c.in_ok-write_all.ensures.ok)
    (begins_last _ _ _ _ _ c.in_ok-write_line.ensures.ok wrote)))
    c.write_rejection_end.ensures.fault
