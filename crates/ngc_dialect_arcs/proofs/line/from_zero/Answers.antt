use Rattle.std.proofs.Common.{◌≡◌, ◌-ℤ◌, to_z, of_z, arith}
use Rattle.std.specs.Int.{w128}
use Rattle.std.proofs.lemmas.Int.{ints}
use Rattle.ngc_dialect_arcs.proofs.line.from_zero.Goals as goal

pub overflow_sub-from : goal.overflow_sub-from
overflow_sub-from c = omega (arith, ints)

pub returns : goal.returns
returns c =
    let kept : to_z w128 (of_z w128 (to_z w128 (of_z w128 c.from.result) -ℤ to_z w128 (of_z w128 c.from-2.result))) ≡ c.args.place -ℤ c.args.zero = omega (arith, ints) in
    rw kept at c.length.ensures
