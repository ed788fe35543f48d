use Rattle.std.proofs.Common.{rules}
use Rattle.ngc_machine_files.proofs.built_in.built_in_machine.Goals as goal

pub returns : goal.returns
returns g c = search rules
