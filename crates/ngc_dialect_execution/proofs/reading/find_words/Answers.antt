use Rattle.ngc_dialect_execution.proofs.LineSteps.{one_more_word}
use Rattle.ngc_dialect_execution.proofs.reading.find_words.Goals as goal

pub loop-statement-preserved : goal.loop-statement-preserved
loop-statement-preserved g c =
    one_more_word c.args.statements.now c.loop-statement.statement-index c.statement-item.result _ _ _ _ c.loop-statement-test.true c.statement-item.is
    c.in-Ok.ensures c.loop-statement.invariant
