use Rattle.std.proofs.Common.{arith}
use Rattle.ngc_dialect_parameters.proofs.StoredLaws.{one_more_set}
use Rattle.ngc_dialect_parameters.proofs.parameters.Parameters.set_locals.Goals as goal

pub loop-index-preserved : goal.loop-index-preserved
loop-index-preserved g c =
    let most = c.local_count-index-end.ensures.bound in
    let within = c.loop-index-test.true in
    one_more_set c.loop-index.index c.value_at.result _ _ _ _ (omega (arith, most, within)) c.value_at.ensures c.loop-index.invariant c.set.ensures
