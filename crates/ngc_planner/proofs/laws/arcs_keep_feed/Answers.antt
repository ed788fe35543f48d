use Rattle.ngc_planner.proofs.ArcFeedLaws.{arcs_keep_feed}
use Rattle.ngc_planner.proofs.laws.arcs_keep_feed.Goals as goal

pub returns : goal.returns
returns c = arcs_keep_feed
