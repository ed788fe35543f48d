use Rattle.std.proofs.Common.{rules}
use Rattle.ngc_checker.proofs.checker.settings_fault.Goals as goal

pub returns : goal.returns
returns g c = search rules
