use Rattle.std.proofs.Common.{rules}
use Rattle.ngc_machine_files.proofs.tools.Tools.empty.Goals as goal

pub returns : goal.returns
returns g c = search rules
