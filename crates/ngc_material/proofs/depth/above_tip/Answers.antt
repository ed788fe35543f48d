use Rattle.std.proofs.Common.{◌≡◌, ◌-ℤ◌, ◌≤ℤ◌, ◌<ℤ◌, unsigned_abs, arith}
use Rattle.std.proofs.lemmas.Int.{ints}
use Rattle.ngc_material.proofs.Depths.{below_bottom, above_bottom}
use Rattle.ngc_material.proofs.depth.above_tip.Goals as goal

pub returns-then-tip-stock-clause-value : goal.returns-then-tip-stock-clause-value
returns-then-tip-stock-clause-value c =
    let s = c.args.stock.now in
    let apart : c.abs_diff-apart.result ≡ unsigned_abs (c.args.tip -ℤ s.bottom) = omega (arith, ints) in
    let less : c.args.tip <ℤ s.bottom = omega (arith, ints) in
    below_bottom c.args.tip s.bottom c.args.level c.abs_diff-apart.result less apart

pub returns-else-tip-stock-clause-value : goal.returns-else-tip-stock-clause-value
returns-else-tip-stock-clause-value c =
    let s = c.args.stock.now in
    let apart : c.abs_diff-apart.result ≡ unsigned_abs (c.args.tip -ℤ s.bottom) = omega (arith, ints) in
    let more : s.bottom ≤ℤ c.args.tip = omega (arith, ints) in
    rw c.saturating_sub.ensures (above_bottom c.args.tip s.bottom c.args.level c.abs_diff-apart.result more apart)
