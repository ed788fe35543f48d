use Rattle.std.proofs.Common.{rules}
use Rattle.ngc_canonical.proofs.state.Interpreter.execute.Goals as goal

pub returns-in-Err : goal.returns-in-Err
returns-in-Err g c = search rules

pub returns-in-Ok-execute_words : goal.returns-in-Ok-execute_words
returns-in-Ok-execute_words g c = search rules

pub returns-in-Err-execute_words : goal.returns-in-Err-execute_words
returns-in-Err-execute_words g c = search rules
