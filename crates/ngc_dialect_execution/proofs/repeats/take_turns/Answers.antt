use Rattle.std.proofs.Common.{arith}
use Rattle.ngc_dialect_execution.specs.Views.{between_of}
use Rattle.ngc_dialect_execution.proofs.Passing.{turns_end, turns_next, turns_stop}
use Rattle.ngc_dialect_execution.proofs.repeats.take_turns.Goals as goal

pub returns-in-Err : goal.returns-in-Err
returns-in-Err g c =
    turns_stop {W = Unit {0}} _ _ _ _ _ _ (between_of c.args.interpreter.now) _ (λ x. between_of c.args.interpreter.now) _ c.loop-left-test.true
    c.in-Err.ensures c.loop-left.invariant

pub loop-left-preserved : goal.loop-left-preserved
loop-left-preserved g c = turns_next _ _ _ _ _ _ _ _ c.loop-left-test.true c.in-Ok.ensures c.loop-left.invariant

pub returns : goal.returns
returns g c = turns_end _ _ _ _ _ _ _ (omega arith) c.loop-left.invariant
