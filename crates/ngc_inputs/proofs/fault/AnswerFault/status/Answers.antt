use Rattle.std.proofs.Common.{rules}
use Rattle.ngc_inputs.proofs.fault.AnswerFault.status.Goals as goal

pub returns-in-Input : goal.returns-in-Input
returns-in-Input c = search rules
