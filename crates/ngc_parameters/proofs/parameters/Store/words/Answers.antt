use Rattle.std.proofs.Common.{rules}
use Rattle.ngc_parameters.proofs.parameters.Store.words.Goals as goal

pub returns-in-Ok-clause-value : goal.returns-in-Ok-clause-value
returns-in-Ok-clause-value g c = search rules
