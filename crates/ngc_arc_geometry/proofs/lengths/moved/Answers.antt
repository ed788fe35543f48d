use Rattle.std.proofs.Common.{rules, arith, ◌≡◌, ℤ, ◌+ℤ◌, to_z, of_z, Result, Ok, ◌∙◌}
use Rattle.std.specs.Int.{w128}
use Rattle.std.proofs.lemmas.Bool.Decides.{nat_tests}
use Rattle.std.proofs.lemmas.Int.{ints}
use Rattle.ngc_fixed_length.specs.Limits.{LENGTH_LIMIT, IsLength}
use Rattle.ngc_fixed_length.specs.NumberFault.{within}
use Rattle.ngc_fixed_length.specs.declared.fault.NumberFault.{NumberFault}
use Rattle.ngc_arc_geometry.proofs.lengths.moved.Goals as goal

-- a length is within the limit
taken : (z : ℤ) → IsLength z → within LENGTH_LIMIT z ≡ Ok z
taken z small = grind (arith, nat_tests)

-- the result of the test on a length
answered : (r : Result ℤ NumberFault) (sum z : ℤ) → r ≡ within LENGTH_LIMIT sum → sum ≡ z → IsLength z → r ≡ Ok z
answered r sum z test same small = test ∙ (rw same (taken z small))

pub unwrap-requires : goal.unwrap-requires
unwrap-requires c =
    let same : to_z w128 (of_z w128 (to_z w128 (of_z w128 c.from.result) +ℤ to_z w128 (of_z w128 c.from-2.result))) ≡ c.args.length +ℤ c.args.by =
    omega (arith, ints) in
    let answer : c.from_nanometres.result ≡ Ok (c.args.length +ℤ c.args.by) = answered _ _ _ c.from_nanometres.ensures same c.requires in
    rw answer (search rules)

pub returns : goal.returns
returns c =
    let same : to_z w128 (of_z w128 (to_z w128 (of_z w128 c.from.result) +ℤ to_z w128 (of_z w128 c.from-2.result))) ≡ c.args.length +ℤ c.args.by =
    omega (arith, ints) in
    let answer : c.from_nanometres.result ≡ Ok (c.args.length +ℤ c.args.by) = answered _ _ _ c.from_nanometres.ensures same c.requires in
    cc answer
