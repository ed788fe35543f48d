use Rattle.ngc_planner.proofs.JointWindowLaws.{between}
use Rattle.ngc_planner.proofs.laws.between.Goals as goal

pub returns : goal.returns
returns c = between
