use Rattle.std.proofs.Common.{◌≡◌, ◌≤◌, arith, pos, unsigned_abs, to_z, of_z, w64}
use Rattle.std.proofs.lemmas.Int.{ints}
use Rattle.ngc_place.proofs.Quotients.{grid_bound}
use Rattle.ngc_place.proofs.grid.nearest_step.Goals as goal

coordinate_is : (c : goal.After-short_quotient) → to_z w64 (of_z w64 c.args.coordinate) ≡ c.args.coordinate
coordinate_is c = omega (arith, ints, c.requires.near)

step_is : (c : goal.After-short_quotient) → pos c.unsigned_abs.result ≡ c.args.step
step_is c = omega (arith, ints, c.requires.step.least, c.unsigned_abs.ensures.value)

bound : (c : goal.After-short_quotient) → unsigned_abs c.short_quotient.result ≤ 600000000
bound c =
    let near = rw (coordinate_is c, step_is c) at c.short_quotient.ensures.nearest.near in
    grid_bound c.args.coordinate c.args.step c.short_quotient.result c.requires.step c.requires.near (omega (arith, ints, near, step_is c))

pub overflow_cast-result : goal.overflow_cast-result
overflow_cast-result c = let b = bound c in omega (arith, ints)

pub returns : goal.returns
returns c =
    let b = bound c in
    let same = rw (coordinate_is c, step_is c) at c.short_quotient.ensures.value in
    omega (arith, ints)
