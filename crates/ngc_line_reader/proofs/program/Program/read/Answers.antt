use Rattle.std.proofs.Common.{rules}
use Rattle.ngc_line_reader.proofs.program.Program.read.Goals as goal

pub returns-then-count-eq0-clause-device : goal.returns-then-count-eq0-clause-device
returns-then-count-eq0-clause-device g c = search rules
