use Rattle.ngc_planner.proofs.SmoothLaws.{free_where_smooth}
use Rattle.ngc_planner.proofs.laws.free_where_smooth.Goals as goal

pub returns : goal.returns
returns c = free_where_smooth
