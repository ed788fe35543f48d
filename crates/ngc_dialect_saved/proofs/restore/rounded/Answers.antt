use Rattle.std.proofs.Common.{refl}
use Rattle.std.specs.Int.{w64, w128}
use Rattle.std.proofs.lemmas.Int.{to_z-of_z}
use Rattle.ngc_dialect_saved.proofs.restore.rounded.Goals as goal

pub returns-in-Ok : goal.returns-in-Ok
returns-in-Ok c =
    let times = rw (to_z-of_z w64 c.millionths.result (record { sfits = c.millionths.type_inv }), c.millionths.ensures.value, c.from.ensures) at c.short_quotient-times.ensures.value in
    let product = rw (to_z-of_z w64 c.short_quotient-times.result (record { sfits = c.short_quotient-times.type_inv }), times) at c.trillionths.ensures in
    let kept = to_z-of_z w128 c.trillionths.result (record { sfits = c.trillionths.type_inv }) in
    let found = rw (kept, product) at c.in-Ok.ensures in
    rw (← found) refl

pub returns-in-Err : goal.returns-in-Err
returns-in-Err c =
    let times = rw (to_z-of_z w64 c.millionths.result (record { sfits = c.millionths.type_inv }), c.millionths.ensures.value, c.from.ensures) at c.short_quotient-times.ensures.value in
    let product = rw (to_z-of_z w64 c.short_quotient-times.result (record { sfits = c.short_quotient-times.type_inv }), times) at c.trillionths.ensures in
    let kept = to_z-of_z w128 c.trillionths.result (record { sfits = c.trillionths.type_inv }) in
    let found = rw (kept, product) at c.in-Err.ensures in
    rw (← found) c.truth.ensures
