use Rattle.std.proofs.Common.{arith, ◌-ℤ◌, ◌≡◌, ◌≤◌, ◌*◌, unsigned_abs, to_z, of_z, w64}
use Rattle.std.specs.Int.{w128}
use Rattle.std.proofs.lemmas.Int.{ints}
use Rattle.std.proofs.lemmas.Nat.{mul-le}
use Rattle.ngc_step_kernel.proofs.view.from_centre.Goals as goal

place : (c : goal.After-scaled) → to_z w64 (of_z w64 c.from.result) ≡ c.args.at
place c = omega (arith, ints)

bound : (c : goal.After-scaled) → unsigned_abs c.scaled.result ≤ 200000000 * 50000
bound c =
    let product = rw (place c) at c.scaled.ensures.bound in
    let few : unsigned_abs c.args.at * c.args.step ≤ 200000000 * 50000 =
    mul-le (unsigned_abs c.args.at) c.args.step 200000000 50000 c.requires.at c.requires.greatest in
    omega (arith, product, few)

narrow : (c : goal.After-scaled) → to_z w64 (of_z w64 (to_z w128 (of_z w128 c.scaled.result))) ≡ c.scaled.result
narrow c = let small = bound c in omega (arith, ints, small)

pub overflow_cast-result : goal.overflow_cast-result
overflow_cast-result c = let small = bound c in omega (arith, ints, small)

pub overflow_sub-result : goal.overflow_sub-result
overflow_sub-result c =
    let small = bound c in
    rw (narrow c) (omega (arith, ints, small))

pub returns : goal.returns
returns c =
    let small = bound c in
    let value = rw (place c) at c.scaled.ensures.value in
    let difference : to_z w64 (of_z w64 (c.scaled.result -ℤ to_z w64 (of_z w64 c.args.centre))) ≡ c.scaled.result -ℤ c.args.centre =
    omega (arith, ints, small) in
    rw (narrow c, difference, value)
