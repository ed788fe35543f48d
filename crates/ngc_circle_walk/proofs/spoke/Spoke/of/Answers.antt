use Rattle.std.proofs.Common.{rules}
use Rattle.ngc_circle_walk.proofs.spoke.Spoke.of.Goals as goal

pub returns-then-v-ge0-clause-out : goal.returns-then-v-ge0-clause-out
returns-then-v-ge0-clause-out c = search rules
