use Rattle.ngc_dialect_execution.specs.Views.{between_of}
use Rattle.ngc_dialect_execution.proofs.Passing.{moves_end, moves_next, moves_stop}
use Rattle.ngc_dialect_execution.proofs.words.WordInterpreter.take_moves.Goals as goal

pub returns-in-Err : goal.returns-in-Err
returns-in-Err g c = moves_stop {W = Unit {0}} _ _ _ _ _ _ (between_of c.args.self.now) _ (λ x. between_of c.args.self.now) _ c.in-Some.ensures c.in-Err.ensures c.loop-taken.invariant

pub loop-taken-preserved : goal.loop-taken-preserved
loop-taken-preserved g c = moves_next _ _ _ _ _ _ _ _ c.in-Some.ensures c.in-Ok.ensures c.loop-taken.invariant

pub returns : goal.returns
returns g c = moves_end _ _ _ _ _ c.in_default.ensures.0 c.loop-taken.invariant
