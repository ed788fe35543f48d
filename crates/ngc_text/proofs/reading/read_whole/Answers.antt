use Rattle.std.proofs.Common.{arith}
use Rattle.ngc_text.proofs.ConsumedBytes.{lost_more}
use Rattle.ngc_text.proofs.reading.read_whole.Goals as goal

pub returns-then-count-limit-clause-taken : goal.returns-then-count-limit-clause-taken
returns-then-count-limit-clause-taken g c =
    lost_more _ _ _ _ _ _ _ _ c.loop-count.invariant.read c.in-Ok.ensures.bytes.0 (omega arith) (omega arith)

pub returns-then-is_err-clause-taken : goal.returns-then-is_err-clause-taken
returns-then-is_err-clause-taken g c =
    lost_more _ _ _ _ _ _ _ _ c.loop-count.invariant.read c.in-Ok.ensures.bytes.0 (omega arith) (omega arith)
