use Rattle.std.proofs.Common.{rules}
use Rattle.ngc_parameters.proofs.parameters.Store.apply.Goals as goal

pub returns : goal.returns
returns g c = search rules
