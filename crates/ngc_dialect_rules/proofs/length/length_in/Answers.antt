use Rattle.std.proofs.Common.{arith}
use Rattle.std.specs.Int.{w128}
use Rattle.std.proofs.lemmas.Int.{to_z-of_z}
use Rattle.ngc_dialect_rules.specs.Lengths.{length_in}
use Rattle.ngc_dialect_rules.proofs.length.length_in.Goals as goal

pub rounded_quotient-nanometres-requires-clause-dividend : goal.rounded_quotient-nanometres-requires-clause-dividend
rounded_quotient-nanometres-requires-clause-dividend c =
    rw (to_z-of_z w128 c.scaled.result (record { sfits = c.scaled.type_inv })) (omega (arith, c.scaled.ensures.bound))

pub returns : goal.returns
unfolding length_in
returns c =
    let whole = to_z-of_z w128 c.scaled.result (record { sfits = c.scaled.type_inv }) in
    let rounded = to_z-of_z w128 c.rounded_quotient-nanometres.result (record { sfits = c.rounded_quotient-nanometres.type_inv }) in
    let quotient = rw (whole, c.scaled.ensures.value) at c.rounded_quotient-nanometres.ensures.value in
    rw (rounded, quotient) at c.limited.ensures
