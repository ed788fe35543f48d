use Rattle.ngc_planner.proofs.ComponentLaws.{greatest_change}
use Rattle.ngc_planner.proofs.laws.greatest_change.Goals as goal

pub returns : goal.returns
returns c = greatest_change
