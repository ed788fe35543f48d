use Rattle.std.proofs.Common.{◌≡◌, ◌+ℤ◌, ◌-ℤ◌, ◌≤ℤ◌, ◌<ℤ◌, unsigned_abs, arith}
use Rattle.std.proofs.lemmas.Int.{ints}
use Rattle.ngc_material.proofs.Depths.{below_bottom, above_bottom}
use Rattle.ngc_material.proofs.change.tip_depth.Goals as goal

pub returns-then-tip-stock : goal.returns-then-tip-stock
returns-then-tip-stock c =
    let s = c.args.stock.now in
    let tip = c.args.place.now.z +ℤ c.args.tool.now.bottom in
    let apart : c.abs_diff-apart.result ≡ unsigned_abs (tip -ℤ s.bottom) = omega (arith, ints) in
    let less : tip <ℤ s.bottom = omega (arith, ints) in
    rw c.from-height.ensures (below_bottom tip s.bottom s.height c.abs_diff-apart.result less apart)

pub returns-else-tip-stock : goal.returns-else-tip-stock
returns-else-tip-stock c =
    let s = c.args.stock.now in
    let tip = c.args.place.now.z +ℤ c.args.tool.now.bottom in
    let apart : c.abs_diff-apart.result ≡ unsigned_abs (tip -ℤ s.bottom) = omega (arith, ints) in
    let more : s.bottom ≤ℤ tip = omega (arith, ints) in
    rw (c.saturating_sub.ensures, c.from-height.ensures) (above_bottom tip s.bottom s.height c.abs_diff-apart.result more apart)
