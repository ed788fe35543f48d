use Rattle.std.proofs.Common.{rules}
use Rattle.ngc_line_reader.proofs.program.Program.len.Goals as goal

pub returns-clause-value : goal.returns-clause-value
returns-clause-value g c = search rules
