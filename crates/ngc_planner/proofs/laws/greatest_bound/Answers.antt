use Rattle.ngc_planner.proofs.BoundLaws.{greatest_bound}
use Rattle.ngc_planner.proofs.laws.greatest_bound.Goals as goal

pub returns : goal.returns
returns c = greatest_bound
