use Rattle.ngc_stock.proofs.Discs.{cone_inside}
use Rattle.ngc_stock.proofs.laws.cone_inside.Goals as goal

pub returns : goal.returns
returns c = cone_inside
