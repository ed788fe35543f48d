use Rattle.ngc_planner.proofs.ArcFeedLaws.{places_keep_feed}
use Rattle.ngc_planner.proofs.laws.places_keep_feed.Goals as goal

pub returns : goal.returns
returns c = places_keep_feed
