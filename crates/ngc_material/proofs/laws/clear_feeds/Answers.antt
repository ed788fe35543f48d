use Rattle.ngc_material.proofs.Reports.{clear_feeds}
use Rattle.ngc_material.proofs.laws.clear_feeds.Goals as goal

pub returns : goal.returns
returns c = clear_feeds
