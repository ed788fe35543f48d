use Rattle.std.proofs.Common.{rules}
use Rattle.ngc_line_reader.proofs.program.Program.load.Goals as goal

pub returns : goal.returns
returns g c = search rules
