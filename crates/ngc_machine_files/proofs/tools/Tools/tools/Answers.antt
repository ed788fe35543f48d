use Rattle.std.proofs.Common.{rules}
use Rattle.ngc_machine_files.proofs.tools.Tools.tools.Goals as goal

pub returns-clause-tools : goal.returns-clause-tools
returns-clause-tools g c = search rules
