use Rattle.std.proofs.Common.{◌≡◌, arith}
use Rattle.ngc_cells.proofs.Kept.{kept64}
use Rattle.ngc_stock.specs.Cuts.{lower_tip}
use Rattle.ngc_stock.specs.Stocks.{level_of}
use Rattle.ngc_material.proofs.FeedDepths.{none_depth, some_depth}
use Rattle.ngc_material.proofs.depth.depth_of.Goals as goal

pub returns-in-Some-touch_at-clause-value : goal.returns-in-Some-touch_at-clause-value
returns-in-Some-touch_at-clause-value c =
    let s = c.args.stock.now in
    let t = c.args.cylinder.now in
    let a = c.args.line.now.start in
    let b = c.args.line.now.end in
    let k = kept64 c.lower_tip-tip.result (omega (arith, c.lower_tip-tip.ensures.bound)) in
    let level : c.level_of-level.result ≡ level_of s (lower_tip t a b) = rw (k, c.lower_tip-tip.ensures.value) at c.level_of-level.ensures in
    some_depth s t a b c.args.heights.now c.in-Some.tested c.level_of-level.result c.above_tip.result c.in-Some-touch_at.touch c.in-Some.ensures.thick c.in-Some.ensures.some
    level
    (rw c.whole.ensures at c.in-Some-touch_at.ensures.some)
    (rw (c.from.ensures, c.from-in-Some-touch_at.ensures, k, c.lower_tip-tip.ensures.value) at c.above_tip.ensures.value)

pub returns-in-None-clause-value : goal.returns-in-None-clause-value
returns-in-None-clause-value c =
    let s = c.args.stock.now in
    let t = c.args.cylinder.now in
    let a = c.args.line.now.start in
    let b = c.args.line.now.end in
    let k = kept64 c.lower_tip-tip.result (omega (arith, c.lower_tip-tip.ensures.bound)) in
    let level : c.level_of-level.result ≡ level_of s (lower_tip t a b) = rw (k, c.lower_tip-tip.ensures.value) at c.level_of-level.ensures in
    none_depth s t a b c.args.heights.now c.in-Some.tested c.in-Some.ensures.some
    (rw (c.whole.ensures, level) at c.in-None.ensures.none)
