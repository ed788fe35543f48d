use Rattle.ngc_planner.proofs.StretchLaws.{may_brake_down}
use Rattle.ngc_planner.proofs.laws.may_brake_down.Goals as goal

pub returns : goal.returns
returns c = may_brake_down
