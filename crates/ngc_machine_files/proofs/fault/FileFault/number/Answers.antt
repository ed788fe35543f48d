use Rattle.std.proofs.Common.{rules}
use Rattle.ngc_machine_files.proofs.fault.FileFault.number.Goals as goal

pub returns-in-Tools : goal.returns-in-Tools
returns-in-Tools c = search rules
