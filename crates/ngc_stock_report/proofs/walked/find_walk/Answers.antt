use Rattle.std.proofs.Common.{inl, inr}
use Rattle.ngc_stock_report.proofs.walked.find_walk.Goals as goal

pub returns-then-not-is_grid : goal.returns-then-not-is_grid
returns-then-not-is_grid g c =
    inr (record {
      stock = c.in-Some.stock;
      placed = c.in-Some.ensures.some;
      far = inl (λ grid. absurd (cc (c.if-not-is_grid.ensures.1 grid)));
    })
