use Rattle.std.proofs.Common.{◌∙◌}
use Rattle.std.proofs.lemmas.Result.{IfOk-weaker}
use Rattle.ngc_stock_report.proofs.Levels.{all_ones, whole_marks}
use Rattle.ngc_stock_report.proofs.marks.marks_in.Goals as goal

pub mark_all-requires-clause-count : goal.mark_all-requires-clause-count
mark_all-requires-clause-count g c = all_ones _ _ c.args.levels.now c.walk.view_is c.requires

pub mark_all-requires-2-clause-count : goal.mark_all-requires-2-clause-count
mark_all-requires-2-clause-count g c = c.mark_all.ensures.count ∙ all_ones _ _ c.args.levels.now c.walk.view_is c.requires

pub returns : goal.returns
returns g c =
    IfOk-weaker c.are_zero.result _ _ (λ v is.
    whole_marks _ _ _ _ _ _ _ v.items c.walk.view_is c.as_slice.ensures.value c.as_slice-2.ensures.value c.requires c.mark_all.ensures c.mark_all-2.ensures is)
    c.are_zero.ensures
