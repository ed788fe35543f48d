use Rattle.std.proofs.Common.{◌≡◌, arith, rules, to_z, of_z}
use Rattle.std.specs.Int.{w64}
use Rattle.std.proofs.lemmas.Int.{ints}
use Rattle.ngc_origin_warnings.proofs.origin.past.Goals as goal

pub returns-clause-value : goal.returns-clause-value
returns-clause-value c =
    let r : to_z w64 (of_z w64 c.greater.result) ≡ c.greater.result = omega (arith, ints) in
    let a : to_z w64 (of_z w64 c.less.result) ≡ c.less.result = omega (arith, ints) in
    let b : to_z w64 (of_z w64 c.less-2.result) ≡ c.less-2.result = omega (arith, ints) in
    rw (r, c.greater.ensures.value, a, b, c.less.ensures.value, c.less-2.ensures.value) (search rules)
