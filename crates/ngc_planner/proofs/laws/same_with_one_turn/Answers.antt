use Rattle.ngc_planner.proofs.TurnLaws.{same_with_one_turn}
use Rattle.ngc_planner.proofs.laws.same_with_one_turn.Goals as goal

pub returns : goal.returns
returns c = same_with_one_turn
