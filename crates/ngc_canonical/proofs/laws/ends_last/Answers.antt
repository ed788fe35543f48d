use Rattle.ngc_canonical.proofs.EndingLines.{ends_last}
use Rattle.ngc_canonical.proofs.laws.ends_last.Goals as goal

pub returns : goal.returns
returns c = ends_last
