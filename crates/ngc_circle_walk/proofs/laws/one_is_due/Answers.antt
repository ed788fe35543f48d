use Rattle.ngc_circle_walk.proofs.OneRoll.{one_is_due}
use Rattle.ngc_circle_walk.proofs.laws.one_is_due.Goals as goal

pub returns : goal.returns
returns c = one_is_due
