use Rattle.ngc_planner.proofs.ArcFeedLaws.{same_elsewhere}
use Rattle.ngc_planner.proofs.laws.same_elsewhere.Goals as goal

pub returns : goal.returns
returns c = same_elsewhere
