use Rattle.std.proofs.Common.{◌≡◌, arith, to_z, of_z, ◌+ℤ◌}
use Rattle.std.specs.Int.{w128}
use Rattle.std.proofs.lemmas.Int.{ints}
use Rattle.ngc_picture_shapes.proofs.sheet.width.Goals as goal

pub returns-clause-value : goal.returns-clause-value
returns-clause-value c =
    let across : to_z w128 (of_z w128 c.across.result) ≡ c.across.result = omega (arith, ints) in
    let least : to_z w128 (of_z w128 c.units.result) ≡ c.units.result = omega (arith, ints) in
    let greater : to_z w128 (of_z w128 c.greater.result) ≡ c.greater.result = omega (arith, ints) in
    let margins : to_z w128 (of_z w128 c.units-2.result) ≡ c.units-2.result = omega (arith, ints) in
    let both : to_z w128 (of_z w128 (c.greater.result +ℤ c.units-2.result)) ≡ c.greater.result +ℤ c.units-2.result = omega (arith, ints) in
    rw (greater, margins, both, c.greater.ensures.value, across, least, c.across.ensures.value, c.units.ensures.value, c.units-2.ensures.value)
