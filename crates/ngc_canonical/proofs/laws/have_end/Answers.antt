use Rattle.ngc_canonical.proofs.EndingLines.{have_end}
use Rattle.ngc_canonical.proofs.laws.have_end.Goals as goal

pub returns : goal.returns
returns c = have_end
