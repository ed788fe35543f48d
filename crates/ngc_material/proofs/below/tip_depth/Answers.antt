use Rattle.std.proofs.Common.{◌≡◌, ◌+ℤ◌, ◌-ℤ◌, ◌≤ℤ◌, ◌<ℤ◌, unsigned_abs, arith}
use Rattle.std.proofs.lemmas.Int.{ints}
use Rattle.ngc_material.proofs.Depths.{depth_below, no_depth_below}
use Rattle.ngc_material.proofs.below.tip_depth.Goals as goal

pub overflow_add-tip : goal.overflow_add-tip
overflow_add-tip c = omega (arith, ints)

pub returns-then-tip-stock : goal.returns-then-tip-stock
returns-then-tip-stock c =
    let s = c.args.stock.now in
    let tip = c.args.nose +ℤ c.args.tool.now.bottom in
    let apart : c.abs_diff.result ≡ unsigned_abs (tip -ℤ s.bottom) = omega (arith, ints) in
    let less : tip <ℤ s.bottom = omega (arith, ints) in
    depth_below tip s.bottom c.abs_diff.result less apart

pub returns-else-tip-stock : goal.returns-else-tip-stock
returns-else-tip-stock c =
    let s = c.args.stock.now in
    let tip = c.args.nose +ℤ c.args.tool.now.bottom in
    let more : s.bottom ≤ℤ tip = omega (arith, ints) in
    no_depth_below tip s.bottom more
