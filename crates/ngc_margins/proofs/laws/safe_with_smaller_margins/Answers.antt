use Rattle.ngc_margins.proofs.MarginLaws.{smaller_law}
use Rattle.ngc_margins.proofs.laws.safe_with_smaller_margins.Goals as goal

pub returns : goal.returns
returns c = smaller_law
