use Rattle.std.proofs.Common.{◌≡◌, ◌≤ℤ◌, to_z, of_z, arith}
use Rattle.std.specs.Int.{w128}
use Rattle.std.proofs.lemmas.Int.{ints}
use Rattle.ngc_cells.proofs.Quotients.{hull_between}
use Rattle.ngc_cells.proofs.span.Span.hull.Goals as goal

pub returns-else-other-clause-between : goal.returns-else-other-clause-between
returns-else-other-clause-between c =
    let low : to_z w128 (of_z w128 c.min.result) ≡ c.min.result = omega (arith, ints) in
    let high : to_z w128 (of_z w128 c.max.result) ≡ c.max.result = omega (arith, ints) in
    let a : to_z w128 (of_z w128 c.args.self.low) ≡ c.args.self.low = omega (arith, ints) in
    let b : to_z w128 (of_z w128 c.args.other.low) ≡ c.args.other.low = omega (arith, ints) in
    let d : to_z w128 (of_z w128 c.args.self.high) ≡ c.args.self.high = omega (arith, ints) in
    let e : to_z w128 (of_z w128 c.args.other.high) ≡ c.args.other.high = omega (arith, ints) in
    let l = rw (a, b) at c.min.ensures.value in
    let h = rw (d, e) at c.max.ensures.value in
    let f : c.args.self.low ≤ℤ c.args.self.high = omega (arith, ints, c.if-self.false) in
    let g : c.args.other.low ≤ℤ c.args.other.high = omega (arith, ints, c.if-other.false) in
    rw (low, high, l, h) (λ x i. hull_between c.args.self c.args.other x f g i)
