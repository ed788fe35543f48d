use Rattle.ngc_planner.proofs.BoundLaws.{may_travel_least}
use Rattle.ngc_planner.proofs.laws.least_travel.Goals as goal

pub returns : goal.returns
returns c = may_travel_least
