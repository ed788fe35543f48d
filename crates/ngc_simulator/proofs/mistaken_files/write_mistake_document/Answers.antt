use Rattle.ngc_text.proofs.AppendedTexts.{appends_both}
use Rattle.ngc_program_report.proofs.WrittenLaws.{appends_as, begins_as, begins_first, begins_last, err_weaker, ok_weaker, on_err}
use Rattle.ngc_simulator.specs.Mistaken.{mistake_document}
use Rattle.ngc_simulator.proofs.mistaken_files.write_mistake_document.Goals as goal

pub returns-in_err-write_all-clause-fault : goal.returns-in_err-write_all-clause-fault
unfolding mistake_document
returns-in_err-write_all-clause-fault g c =
    on_err _ _ (begins_first _ _ _ _ (begins_as _ _ _ _ c.opening.ensures.text c.in_err-write_all.ensures.fault))

pub returns-in_err-write_fact-clause-fault : goal.returns-in_err-write_fact-clause-fault
unfolding mistake_document
returns-in_err-write_fact-clause-fault g c =
    let opened = appends_as _ _ _ _ c.opening.ensures.text c.in_ok-write_all.ensures.ok in
    on_err _ _ (begins_last _ _ _ _ _ opened (begins_first _ _ _ _ c.in_err-write_fact.ensures.fault))

pub returns-clause-ok : goal.returns-clause-ok
unfolding mistake_document
returns-clause-ok g c =
    let opened = appends_as _ _ _ _ c.opening.ensures.text c.in_ok-write_all.ensures.ok in
    ok_weaker c.write_ending.result _ _
    (λ wrote. appends_both _ _ _ _ _ opened (appends_both _ _ _ _ _ c.in_ok-write_fact.ensures.ok wrote))
    c.write_ending.ensures.ok

pub returns-clause-fault : goal.returns-clause-fault
unfolding mistake_document
returns-clause-fault g c =
    let opened = appends_as _ _ _ _ c.opening.ensures.text c.in_ok-write_all.ensures.ok in
    err_weaker c.write_ending.result _ _
    (λ wrote. begins_last _ _ _ _ _ opened (begins_last _ _ _ _ _ c.in_ok-write_fact.ensures.ok wrote))
    c.write_ending.ensures.fault
