use Rattle.ngc_stock.proofs.ClearFeeds.{clear_feed}
use Rattle.ngc_stock.proofs.laws.clear_feed.Goals as goal

pub returns : goal.returns
returns c = clear_feed
