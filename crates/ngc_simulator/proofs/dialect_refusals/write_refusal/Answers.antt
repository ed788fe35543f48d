use Rattle.std.proofs.Common.{Bool, true, ap}
use Rattle.ngc_margins.specs.Lines.{nothing_kept}
use Rattle.ngc_text.proofs.AppendedTexts.{appends_both}
use Rattle.ngc_program_report.specs.Texts.{heading}
use Rattle.ngc_program_report.proofs.WrittenLaws.{appends_as, begins_as, begins_first, begins_last, err_weaker, ok_weaker, on_err}
use Rattle.ngc_simulator.proofs.dialect_refusals.write_refusal.Goals as goal

pub returns-in_err-write_rejection_heading-clause-fault : goal.returns-in_err-write_rejection_heading-clause-fault
returns-in_err-write_rejection_heading-clause-fault g c =
    let r = c.args.request.now in
    let named = ap (λ (n : Bool). heading r.form r.origins nothing_kept true n c.args.refusal.now.setting) c.has_deleted_lines-named.ensures in
    on_err _ _ (begins_first _ _ _ _ (begins_as _ _ _ _ named c.in_err-write_rejection_heading.ensures.fault))

pub returns-in_err-write_all-clause-fault : goal.returns-in_err-write_all-clause-fault
returns-in_err-write_all-clause-fault g c =
    let r = c.args.request.now in
    let named = ap (λ (n : Bool). heading r.form r.origins nothing_kept true n c.args.refusal.now.setting) c.has_deleted_lines-named.ensures in
    let headed = appends_as _ _ _ _ named c.in_ok-write_rejection_heading.ensures.ok in
    on_err _ _ (begins_last _ _ _ _ _ headed (begins_first _ _ _ _ (begins_as _ _ _ _ c.verdict_line.ensures c.in_err-write_all.ensures.fault)))

pub returns-in_err-write_place-clause-fault : goal.returns-in_err-write_place-clause-fault
returns-in_err-write_place-clause-fault g c =
    let r = c.args.request.now in
    let named = ap (λ (n : Bool). heading r.form r.origins nothing_kept true n c.args.refusal.now.setting) c.has_deleted_lines-named.ensures in
    let headed = appends_as _ _ _ _ named c.in_ok-write_rejection_heading.ensures.ok in
    let line = appends_as _ _ _ _ c.verdict_line.ensures c.in_ok-write_all.ensures.ok in
    on_err _ _ (begins_last _ _ _ _ _ headed (begins_last _ _ _ _ _ line (begins_first _ _ _ _ c.in_err-write_place.ensures.fault)))

pub returns-clause-ok : goal.returns-clause-ok
returns-clause-ok g c =
    let r = c.args.request.now in
    let named = ap (λ (n : Bool). heading r.form r.origins nothing_kept true n c.args.refusal.now.setting) c.has_deleted_lines-named.ensures in
    let headed = appends_as _ _ _ _ named c.in_ok-write_rejection_heading.ensures.ok in
    let line = appends_as _ _ _ _ c.verdict_line.ensures c.in_ok-write_all.ensures.ok in
    ok_weaker c.write_reason.result _ _
    (λ wrote. appends_both _ _ _ _ _ headed (appends_both _ _ _ _ _ line (appends_both _ _ _ _ _ c.in_ok-write_place.ensures.ok wrote)))
    c.write_reason.ensures.ok

pub returns-clause-fault : goal.returns-clause-fault
returns-clause-fault g c =
    let r = c.args.request.now in
    let named = ap (λ (n : Bool). heading r.form r.origins nothing_kept true n c.args.refusal.now.setting) c.has_deleted_lines-named.ensures in
    let headed = appends_as _ _ _ _ named c.in_ok-write_rejection_heading.ensures.ok in
    let line = appends_as _ _ _ _ c.verdict_line.ensures c.in_ok-write_all.ensures.ok in
    err_weaker c.write_reason.result _ _
    (λ wrote. begins_last _ _ _ _ _ headed (begins_last _ _ _ _ _ line (begins_last _ _ _ _ _ c.in_ok-write_place.ensures.ok wrote)))
    c.write_reason.ensures.fault
