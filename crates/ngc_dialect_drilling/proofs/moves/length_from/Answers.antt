use Rattle.std.proofs.Common.{◌≡◌, ◌-ℤ◌, to_z, of_z, arith}
use Rattle.std.specs.Int.{w128}
use Rattle.std.proofs.lemmas.Int.{ints}
use Rattle.ngc_dialect_drilling.proofs.moves.length_from.Goals as goal

pub overflow_sub-from : goal.overflow_sub-from
overflow_sub-from c = omega (arith, ints)

pub returns : goal.returns
returns c =
    let kept : to_z w128 (of_z w128 (to_z w128 (of_z w128 c.from.result) -ℤ to_z w128 (of_z w128 c.args.base))) ≡ c.args.there -ℤ c.args.base = omega (arith, ints) in
    rw kept at c.limited.ensures
