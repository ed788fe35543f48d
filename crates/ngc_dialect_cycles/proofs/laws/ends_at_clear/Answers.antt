use Rattle.ngc_dialect_cycles.proofs.Safe.{ends_at_clear}
use Rattle.ngc_dialect_cycles.proofs.laws.ends_at_clear.Goals as goal

pub returns : goal.returns
returns c = ends_at_clear
