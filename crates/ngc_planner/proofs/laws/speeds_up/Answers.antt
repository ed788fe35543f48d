use Rattle.ngc_planner.proofs.StretchLaws.{speeds_up}
use Rattle.ngc_planner.proofs.laws.speeds_up.Goals as goal

pub returns : goal.returns
returns c = speeds_up
