use Rattle.std.proofs.Common.{arith}
use Rattle.ngc_dialect_execution.specs.Views.{between_of}
use Rattle.ngc_dialect_execution.proofs.Passing.{polar_steps_end, polar_steps_next, polar_steps_stop}
use Rattle.ngc_dialect_execution.proofs.repeats.take_polar_steps.Goals as goal

pub returns-in-Err : goal.returns-in-Err
returns-in-Err g c =
    polar_steps_stop {W = Unit {0}} _ _ _ _ _ _ (between_of c.args.interpreter.now) _ (λ x. between_of c.args.interpreter.now) _ c.loop-left-test.true
    c.in-Err.ensures c.loop-left.invariant

pub loop-left-preserved : goal.loop-left-preserved
loop-left-preserved g c = polar_steps_next _ _ _ _ _ _ _ _ c.loop-left-test.true c.in-Ok.ensures c.loop-left.invariant

pub returns : goal.returns
returns g c = polar_steps_end _ _ _ _ _ _ _ (omega arith) c.loop-left.invariant
