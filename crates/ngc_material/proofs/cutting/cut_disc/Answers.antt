use Rattle.std.proofs.Common.{◌≤◌, arith}
use Rattle.ngc_cells.proofs.Kept.{kept64}
use Rattle.ngc_stock.specs.Cuts.{lower_tip}
use Rattle.ngc_stock.specs.Stocks.{level_of}
use Rattle.ngc_material.proofs.Uncut.{uncut}
use Rattle.ngc_material.proofs.cutting.cut_disc.Goals as goal

pub returns-else-level_of-stock : goal.returns-else-level_of-stock
returns-else-level_of-stock c =
    let s = c.args.stock.now in
    let d = c.args.disc.now in
    let a = c.args.line.now.start in
    let b = c.args.line.now.end in
    let k = kept64 c.lower_tip.result (omega (arith, c.lower_tip.ensures.bound)) in
    let level = rw (k, c.lower_tip.ensures.value) at c.level_of.ensures in
    let high : s.height ≤ level_of s (lower_tip d a b) = omega (arith, c.if-level_of-stock.false, level) in
    uncut s d a b c.args.heights.now high c.requires.within
