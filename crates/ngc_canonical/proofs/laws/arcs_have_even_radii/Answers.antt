use Rattle.ngc_canonical.proofs.JoinedLines.{are_even}
use Rattle.ngc_canonical.proofs.laws.arcs_have_even_radii.Goals as goal

pub returns : goal.returns
returns c = are_even
