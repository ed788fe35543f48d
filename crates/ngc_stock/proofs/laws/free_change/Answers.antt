use Rattle.ngc_stock.proofs.FreeTools.{free_change}
use Rattle.ngc_stock.proofs.laws.free_change.Goals as goal

pub returns : goal.returns
returns c = free_change
