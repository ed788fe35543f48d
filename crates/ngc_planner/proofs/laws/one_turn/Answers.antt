use Rattle.ngc_planner.proofs.TurnLaws.{one_turn_of_all}
use Rattle.ngc_planner.proofs.laws.one_turn.Goals as goal

pub returns : goal.returns
returns c = one_turn_of_all
