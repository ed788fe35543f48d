use Rattle.ngc_dialect_execution.proofs.Lawful.{in_order}
use Rattle.ngc_dialect_execution.proofs.laws.lists_are_in_order.Goals as goal

pub returns : goal.returns
returns c = in_order
