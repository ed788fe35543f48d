use Rattle.ngc_planner.proofs.ArcFeedLaws.{no_less_by_place}
use Rattle.ngc_planner.proofs.laws.no_less_by_place.Goals as goal

pub returns : goal.returns
returns c = no_less_by_place
