use Rattle.ngc_planner.proofs.ComponentLaws.{least_changes}
use Rattle.ngc_planner.proofs.laws.least_change.Goals as goal

pub returns : goal.returns
returns c = least_changes
