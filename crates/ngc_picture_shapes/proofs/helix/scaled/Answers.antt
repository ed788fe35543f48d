use Rattle.std.proofs.Common.{◌≡◌, ◌≤◌, ◌*ℤ◌, arith, pos, unsigned_abs, to_z, of_z}
use Rattle.std.specs.Int.{w64, w128}
use Rattle.std.proofs.lemmas.Int.{ints, to_z-of_z}
use Rattle.ngc_fixed_length.specs.Rounding.{nearest}
use Rattle.ngc_picture_shapes.proofs.Directions.{scaled_bound}
use Rattle.ngc_picture_shapes.proofs.helix.scaled.Goals as goal

value : (c : goal.After-rounded_quotient) → c.rounded_quotient.result ≡ nearest (c.args.coordinate *ℤ pos c.args.radius) (pos c.args.size)
value c =
    let coordinate : to_z w64 (of_z w64 c.args.coordinate) ≡ c.args.coordinate = to_z-of_z w64 c.args.coordinate c.ranges.coordinate in
    let product : to_z w128 (of_z w128 c.times.result) ≡ c.times.result = to_z-of_z w128 c.times.result (record { sfits = c.times.type_inv }) in
    let size : to_z w128 (of_z w128 c.from.result) ≡ pos c.args.size = omega (arith, ints) in
    let times = rw coordinate at c.times.ensures.value in
    rw (product, size, times) at c.rounded_quotient.ensures.value

bound : (c : goal.After-rounded_quotient) → unsigned_abs c.rounded_quotient.result ≤ c.args.radius
bound c = rw (value c) (scaled_bound c.args.coordinate c.args.radius c.args.size c.requires.some c.requires.within)

pub overflow_cast-result : goal.overflow_cast-result
overflow_cast-result c = let b = bound c in omega (arith, ints)

pub returns-clause-bound : goal.returns-clause-bound
returns-clause-bound c = let b = bound c in omega (arith, ints)

pub returns-clause-value : goal.returns-clause-value
returns-clause-value c =
    let b = bound c in
    let same = value c in
    omega (arith, ints, same)
