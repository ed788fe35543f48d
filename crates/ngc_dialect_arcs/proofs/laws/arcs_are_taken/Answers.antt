use Rattle.ngc_dialect_arcs.proofs.Taken.{arcs_are_taken}
use Rattle.ngc_dialect_arcs.proofs.laws.arcs_are_taken.Goals as goal

pub returns : goal.returns
returns c = arcs_are_taken
