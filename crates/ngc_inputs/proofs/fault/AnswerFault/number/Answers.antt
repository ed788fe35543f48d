use Rattle.std.proofs.Common.{rules}
use Rattle.ngc_inputs.proofs.fault.AnswerFault.number.Goals as goal

pub returns-in-Input : goal.returns-in-Input
returns-in-Input c = search rules
