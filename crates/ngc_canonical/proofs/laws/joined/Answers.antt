use Rattle.ngc_canonical.proofs.JoinedLines.{are_joined}
use Rattle.ngc_canonical.proofs.laws.joined.Goals as goal

pub returns : goal.returns
returns c = are_joined
