use Rattle.std.proofs.Common.{◌≡◌, arith, rules, to_z, of_z}
use Rattle.std.specs.Int.{w64}
use Rattle.std.proofs.lemmas.Int.{ints}
use Rattle.ngc_origin_warnings.proofs.origin.beyond.Goals as goal

pub returns-clause-value : goal.returns-clause-value
returns-clause-value g c =
    let r : to_z w64 (of_z w64 c.greater-2.result) ≡ c.greater-2.result = omega (arith, ints) in
    let yz : to_z w64 (of_z w64 c.greater.result) ≡ c.greater.result = omega (arith, ints) in
    let x : to_z w64 (of_z w64 c.past-x.result) ≡ c.past-x.result = omega (arith, ints) in
    let y : to_z w64 (of_z w64 c.past-y.result) ≡ c.past-y.result = omega (arith, ints) in
    let z : to_z w64 (of_z w64 c.past-z.result) ≡ c.past-z.result = omega (arith, ints) in
    let low : to_z w64 (of_z w64 c.sum.result) ≡ c.sum.result = omega (arith, ints) in
    rw (r, c.greater-2.ensures.value, x, yz, c.greater.ensures.value, y, z)
    (rw (c.past-x.ensures.value, c.past-y.ensures.value, c.past-z.ensures.value, low, c.sum.ensures.value) (search rules))
