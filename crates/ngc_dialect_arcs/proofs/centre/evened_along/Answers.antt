use Rattle.std.specs.Int.{w128}
use Rattle.std.proofs.lemmas.Int.{to_z-of_z}
use Rattle.ngc_dialect_arcs.proofs.centre.evened_along.Goals as goal

pub returns : goal.returns
returns c =
    let by = to_z-of_z w128 c.shift.result (record { sfits = c.shift.type_inv }) in
    rw (by, c.shift.ensures) at c.moved.ensures
