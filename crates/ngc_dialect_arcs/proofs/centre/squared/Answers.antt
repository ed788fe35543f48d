use Rattle.std.proofs.Common.{arith}
use Rattle.std.specs.Prelude.{◌-ℤ◌}
use Rattle.ngc_arc_geometry.proofs.Squares.{square_sum}
use Rattle.ngc_dialect_arcs.proofs.centre.squared.Goals as goal

pub returns-clause-value : goal.returns-clause-value
returns-clause-value c =
    let sum = square_sum (c.args.to.now.u -ℤ c.args.from.now.u) (c.args.to.now.v -ℤ c.args.from.now.v) in
    let u = rw c.distance.ensures.value at c.square.ensures.value in
    let v = rw c.distance-2.ensures.value at c.square-2.ensures.value in
    omega (arith, sum, u, v)
