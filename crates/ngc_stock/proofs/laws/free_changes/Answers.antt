use Rattle.ngc_stock.proofs.FreeTools.{free_changes}
use Rattle.ngc_stock.proofs.laws.free_changes.Goals as goal

pub returns : goal.returns
returns c = free_changes
