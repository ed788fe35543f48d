use Rattle.ngc_dialect_execution.proofs.DeletedLines.{same_at_both}
use Rattle.ngc_dialect_execution.proofs.laws.same_at_both.Goals as goal

pub returns : goal.returns
returns c = same_at_both
