use Rattle.std.proofs.Common.{rules}
use Rattle.ngc_planner.proofs.bounds.turn_rate.Goals as goal

pub returns-in-Arc : goal.returns-in-Arc
returns-in-Arc g c = search rules
