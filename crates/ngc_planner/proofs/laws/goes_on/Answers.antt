use Rattle.ngc_planner.proofs.StretchLaws.{goes_on}
use Rattle.ngc_planner.proofs.laws.goes_on.Goals as goal

pub returns : goal.returns
returns c = goes_on
