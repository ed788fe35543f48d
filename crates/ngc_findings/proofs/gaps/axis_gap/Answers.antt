use Rattle.std.proofs.Common.{◌≡◌, arith, rules, to_z, of_z}
use Rattle.std.specs.Int.{w128}
use Rattle.std.proofs.lemmas.Int.{ints}
use Rattle.ngc_findings.proofs.gaps.axis_gap.Goals as goal

pub returns-clause-value : goal.returns-clause-value
returns-clause-value c =
    let r : to_z w128 (of_z w128 c.greater.result) ≡ c.greater.result = omega (arith, ints) in
    let a : to_z w128 (of_z w128 c.rise.result) ≡ c.rise.result = omega (arith, ints) in
    let b : to_z w128 (of_z w128 c.rise-2.result) ≡ c.rise-2.result = omega (arith, ints) in
    rw (r, c.greater.ensures.value, a, b, c.rise.ensures.value, c.rise-2.ensures.value) (search rules)
