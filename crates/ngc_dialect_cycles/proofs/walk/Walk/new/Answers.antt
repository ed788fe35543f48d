use Rattle.ngc_dialect_cycles.proofs.Joined.{all_left}
use Rattle.ngc_dialect_cycles.proofs.walk.Walk.new.Goals as goal

pub returns-clause-left : goal.returns-clause-left
returns-clause-left c = all_left c.args.plan.series c.args.plan.line
