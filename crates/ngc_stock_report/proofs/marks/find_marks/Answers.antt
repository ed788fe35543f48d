use Rattle.std.proofs.Common.{◌∙◌, ◌*◌, ap}
use Rattle.std.specs.Prelude.{replicate}
use Rattle.ngc_stock_report.specs.Walked.{WalkData}
use Rattle.ngc_stock_report.proofs.marks.find_marks.Goals as goal

pub marks_in-requires : goal.marks_in-requires
marks_in-requires g c =
    c.as_mut_slice.ensures.value ∙ c.in_ok-levels.ensures
    ∙ ap (λ (w : WalkData). replicate (w.stock.grid.columns * w.stock.grid.rows) 1) c.walk.view_is
