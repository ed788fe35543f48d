use Rattle.std.proofs.Common.{rules}
use Rattle.ngc_fixed_length.proofs.length.Nm.nanometres.Goals as goal

pub returns-clause-value : goal.returns-clause-value
returns-clause-value c = search rules
