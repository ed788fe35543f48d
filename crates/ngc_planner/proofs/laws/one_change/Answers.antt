use Rattle.ngc_planner.proofs.ComponentLaws.{one_change}
use Rattle.ngc_planner.proofs.laws.one_change.Goals as goal

pub returns : goal.returns
returns c = one_change
