use Rattle.ngc_planner.proofs.StretchLaws.{slows_down}
use Rattle.ngc_planner.proofs.laws.slows_down.Goals as goal

pub returns : goal.returns
returns c = slows_down
