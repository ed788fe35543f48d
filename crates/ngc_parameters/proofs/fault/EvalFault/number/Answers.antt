use Rattle.std.proofs.Common.{rules}
use Rattle.ngc_parameters.proofs.fault.EvalFault.number.Goals as goal

pub returns-in-IndexNotWhole : goal.returns-in-IndexNotWhole
returns-in-IndexNotWhole c = search rules
