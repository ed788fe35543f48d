use Rattle.std.proofs.Common.{◌≡◌, arith, pos, of_z, to_z, ◌+ℤ◌, ◌∙◌}
use Rattle.std.specs.Int.{w128}
use Rattle.std.proofs.lemmas.Int.{ints}
use Rattle.ngc_motors.proofs.step.nearest.Goals as goal

pub returns : goal.returns
returns c =
    let a = c.args.a in
    let b = c.args.b in
    let is_a : to_z w128 (of_z w128 a) ≡ a = omega (arith, ints) in
    let is_b : to_z w128 (of_z w128 b) ≡ b = omega (arith, ints) in
    let twice : to_z w128 (of_z w128 (a +ℤ a)) ≡ a +ℤ a = omega (arith, ints) in
    let sum : to_z w128 (of_z w128 ((a +ℤ a) +ℤ b)) ≡ (a +ℤ a) +ℤ b = omega (arith, ints) in
    let double : to_z w128 (of_z w128 (b +ℤ b)) ≡ b +ℤ b = omega (arith, ints) in
    let back : to_z w128 (of_z w128 c.div_euclid.result) ≡ c.div_euclid.result = omega (arith, ints) in
    let value = rw (is_a, is_b, twice, sum, double) at c.div_euclid.ensures in
    back ∙ value
