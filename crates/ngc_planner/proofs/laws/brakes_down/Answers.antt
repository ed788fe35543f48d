use Rattle.ngc_planner.proofs.StretchLaws.{brakes_down}
use Rattle.ngc_planner.proofs.laws.brakes_down.Goals as goal

pub returns : goal.returns
returns c = brakes_down
