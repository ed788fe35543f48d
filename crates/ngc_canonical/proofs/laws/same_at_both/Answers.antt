use Rattle.ngc_canonical.proofs.BlockDelete.{same_at_both}
use Rattle.ngc_canonical.proofs.laws.same_at_both.Goals as goal

pub returns : goal.returns
returns c = same_at_both
