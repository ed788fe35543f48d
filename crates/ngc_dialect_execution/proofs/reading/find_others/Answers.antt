use Rattle.ngc_dialect_execution.proofs.LineSteps.{one_more_other}
use Rattle.ngc_dialect_execution.proofs.reading.find_others.Goals as goal

pub loop-word-preserved : goal.loop-word-preserved
loop-word-preserved g c =
    one_more_other c.has_m98-calls.result c.args.words.now c.loop-word.word-index c.word-item.result _ _ _ _ c.loop-word-test.true c.word-item.is
    c.in-Ok.ensures c.loop-word.invariant
