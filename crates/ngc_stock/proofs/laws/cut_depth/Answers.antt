use Rattle.ngc_stock.proofs.CutDepths.{cut_depth}
use Rattle.ngc_stock.proofs.laws.cut_depth.Goals as goal

pub returns : goal.returns
returns c = cut_depth
