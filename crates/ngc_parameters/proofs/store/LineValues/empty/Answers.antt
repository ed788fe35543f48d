use Rattle.std.proofs.Common.{rules}
use Rattle.ngc_parameters.proofs.store.LineValues.empty.Goals as goal

pub returns : goal.returns
returns c = search rules
