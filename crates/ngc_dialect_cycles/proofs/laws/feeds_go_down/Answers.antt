use Rattle.ngc_dialect_cycles.proofs.Down.{feeds_go_down}
use Rattle.ngc_dialect_cycles.proofs.laws.feeds_go_down.Goals as goal

pub returns : goal.returns
returns c = feeds_go_down
