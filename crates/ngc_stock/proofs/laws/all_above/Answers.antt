use Rattle.ngc_stock.proofs.AboveFeeds.{all_above}
use Rattle.ngc_stock.proofs.laws.all_above.Goals as goal

pub returns : goal.returns
returns c = all_above
