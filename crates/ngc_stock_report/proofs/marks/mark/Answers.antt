use Rattle.std.proofs.Common.{ℕ, arith, subst}
use Rattle.ngc_cells.specs.Grids.{AreLowered}
use Rattle.ngc_stock_report.specs.Marks.{at_spot}
use Rattle.ngc_stock_report.proofs.Levels.{none_marked, one_marked}
use Rattle.ngc_stock_report.proofs.marks.mark.Goals as goal

pub returns-then-not-is_near : goal.returns-then-not-is_near
returns-then-not-is_near c = none_marked c.args.grid.now c.args.found.now c.args.levels.now (λ spot. absurd (cc (c.if-not-is_near.ensures.1 spot)))

pub lower-requires-clause-stretch : goal.lower-requires-clause-stretch
lower-requires-clause-stretch c =
    let spot = c.is_near.ensures.0 c.if-not-is_near.false in record { start = spot; end = spot; parts = omega arith; part = omega arith }

pub returns : goal.returns
returns c =
    let low = subst (λ (r : ℕ). AreLowered c.args.grid.now (at_spot c.args.found.now.touch.place) r 0 c.args.levels.now c.lower.new.heights)
    c.mark_radius.ensures.value c.lower.ensures in
    one_marked c.args.grid.now c.args.found.now c.args.levels.now c.lower.new.heights (c.is_near.ensures.0 c.if-not-is_near.false) low
