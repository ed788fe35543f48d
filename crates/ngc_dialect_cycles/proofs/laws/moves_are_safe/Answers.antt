use Rattle.ngc_dialect_cycles.proofs.Safe.{moves_are_safe}
use Rattle.ngc_dialect_cycles.proofs.laws.moves_are_safe.Goals as goal

pub returns : goal.returns
returns c = moves_are_safe
