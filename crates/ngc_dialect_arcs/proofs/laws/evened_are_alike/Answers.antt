use Rattle.ngc_dialect_arcs.proofs.Taken.{evened_are_alike}
use Rattle.ngc_dialect_arcs.proofs.laws.evened_are_alike.Goals as goal

pub returns : goal.returns
returns c = evened_are_alike
