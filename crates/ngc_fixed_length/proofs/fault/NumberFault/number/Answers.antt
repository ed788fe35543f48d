use Rattle.std.proofs.Common.{rules}
use Rattle.ngc_fixed_length.proofs.fault.NumberFault.number.Goals as goal

pub returns-in-TooLarge : goal.returns-in-TooLarge
returns-in-TooLarge c = search rules
