use Rattle.std.proofs.Common.{◌≡◌, pos, to_z, of_z, neg_ℤ, ◌-ℤ◌, arith}
use Rattle.std.specs.Int.{w128}
use Rattle.std.proofs.lemmas.Int.{ints, to_z-of_z}
use Rattle.ngc_cells.proofs.Quotients.{quotients_up, quotients_down}
use Rattle.ngc_cells.proofs.span.Span.quotients.Goals as goal

pub returns-then-by-gt0 : goal.returns-then-by-gt0
returns-then-by-gt0 c =
    let low : to_z w128 (of_z w128 c.ceiling_quotient.result) ≡ c.ceiling_quotient.result = omega (arith, ints) in
    let high : to_z w128 (of_z w128 c.floor_quotient.result) ≡ c.floor_quotient.result = omega (arith, ints) in
    let l = to_z-of_z w128 c.args.low c.ranges.low in
    let h = to_z-of_z w128 c.args.high c.ranges.high in
    let y = to_z-of_z w128 c.args.by c.ranges.by in
    rw (low, high) (λ x. quotients_up c.args.low c.args.high c.args.by x c.ceiling_quotient.result c.floor_quotient.result (rw (l, y) at (c.ceiling_quotient.ensures x)) (rw (h, y) at (c.floor_quotient.ensures x)))

pub returns-else-by-gt0 : goal.returns-else-by-gt0
returns-else-by-gt0 c =
    let low : to_z w128 (of_z w128 c.ceiling_quotient-else-by-gt0.result) ≡ c.ceiling_quotient-else-by-gt0.result = omega (arith, ints) in
    let high : to_z w128 (of_z w128 c.floor_quotient-else-by-gt0.result) ≡ c.floor_quotient-else-by-gt0.result = omega (arith, ints) in
    let l : to_z w128 (of_z w128 (pos 0 -ℤ to_z w128 (of_z w128 c.args.low))) ≡ neg_ℤ c.args.low = omega (arith, ints) in
    let h : to_z w128 (of_z w128 (pos 0 -ℤ to_z w128 (of_z w128 c.args.high))) ≡ neg_ℤ c.args.high = omega (arith, ints) in
    let y : to_z w128 (of_z w128 (pos 0 -ℤ to_z w128 (of_z w128 c.args.by))) ≡ neg_ℤ c.args.by = omega (arith, ints) in
    rw (low, high) (λ x. quotients_down c.args.low c.args.high c.args.by x c.ceiling_quotient-else-by-gt0.result c.floor_quotient-else-by-gt0.result (rw (h, y) at (c.ceiling_quotient-else-by-gt0.ensures x)) (rw (l, y) at (c.floor_quotient-else-by-gt0.ensures x)))
