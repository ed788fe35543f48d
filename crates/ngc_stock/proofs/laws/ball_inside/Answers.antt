use Rattle.ngc_stock.proofs.Discs.{ball_inside}
use Rattle.ngc_stock.proofs.laws.ball_inside.Goals as goal

pub returns : goal.returns
returns c = ball_inside
