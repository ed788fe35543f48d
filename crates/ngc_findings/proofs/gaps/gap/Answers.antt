use Rattle.std.proofs.Common.{◌≡◌, arith, rules, to_z, of_z}
use Rattle.std.specs.Int.{w128}
use Rattle.std.proofs.lemmas.Int.{ints}
use Rattle.ngc_findings.proofs.gaps.gap.Goals as goal

pub returns-clause-value : goal.returns-clause-value
returns-clause-value c =
    let r : to_z w128 (of_z w128 c.greater-2.result) ≡ c.greater-2.result = omega (arith, ints) in
    let yz : to_z w128 (of_z w128 c.greater.result) ≡ c.greater.result = omega (arith, ints) in
    let x : to_z w128 (of_z w128 c.axis_gap-x.result) ≡ c.axis_gap-x.result = omega (arith, ints) in
    let y : to_z w128 (of_z w128 c.axis_gap-y.result) ≡ c.axis_gap-y.result = omega (arith, ints) in
    let z : to_z w128 (of_z w128 c.axis_gap-z.result) ≡ c.axis_gap-z.result = omega (arith, ints) in
    rw (r, c.greater-2.ensures.value, x, yz, c.greater.ensures.value, y, z, c.axis_gap-x.ensures.value, c.axis_gap-y.ensures.value, c.axis_gap-z.ensures.value)
    (search rules)
