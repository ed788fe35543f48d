use Rattle.std.proofs.Common.{Some, refl, sym, ◌∙◌}
use Rattle.ngc_simulator.proofs.UnreadableLaws.{told_begun}
use Rattle.ngc_simulator.proofs.unread_files.report_unreadable.Goals as goal

pub returns-clause-tells : goal.returns-clause-tells
returns-clause-tells g c =
    told_begun c.args.form (Some c.args.name.now) _ c.in-Ok.bytes.items c.as_slice.result.now _ _ c.args.fault c.in-Err.fault c.as_slice.ensures.value
    c.in-Ok.ensures.value refl
    (sym c.is_of_text.ensures ∙ c.if-not-is_of_text.false) c.in-Err.ensures.fault
