use Rattle.std.proofs.Common.{◌<◌, arith, subst, sym}
use Rattle.ngc_stock.specs.declared.stock.Stock.{Stock}
use Rattle.ngc_stock_report.proofs.Covering.{placed_cells}
use Rattle.ngc_stock_report.proofs.placed.placed_in.Goals as goal

pub returns-clause-cells : goal.returns-clause-cells
returns-clause-cells g c =
    subst (λ (s : Stock). (0 < s.grid.columns) × (0 < s.grid.rows)) (sym c.placed.ensures)
    (placed_cells c.origin_at-origin.result c.args.block.now c.half_of.result (omega (arith, c.half_of.ensures, c.least_width-number.ensures.some)) c.requires.ordered)
