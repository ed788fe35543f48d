use Rattle.std.proofs.Common.{length}
use Rattle.ngc_dialect_execution.proofs.framing.+are_same_points.Given as goal

abbrev pub decreases-are_same_points : goal.decreases-are_same_points
decreases-are_same_points l = length l.ps.now
