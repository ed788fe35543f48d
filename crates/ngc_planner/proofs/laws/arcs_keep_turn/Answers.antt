use Rattle.ngc_planner.proofs.ArcFeedLaws.{arcs_keep_turn}
use Rattle.ngc_planner.proofs.laws.arcs_keep_turn.Goals as goal

pub returns : goal.returns
returns c = arcs_keep_turn
