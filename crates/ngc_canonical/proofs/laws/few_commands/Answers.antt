use Rattle.ngc_canonical.proofs.JoinedLines.{are_few}
use Rattle.ngc_canonical.proofs.laws.few_commands.Goals as goal

pub returns : goal.returns
returns c = are_few
