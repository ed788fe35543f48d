use Rattle.std.proofs.Common.{◌^◌, arith}
use Rattle.ngc_planner.proofs.caps.length_between.Goals as goal

pub returns-clause-bound : goal.returns-clause-bound
returns-clause-bound c = c.root_ceil.ensures.least (10 ^ 12) (omega arith)
