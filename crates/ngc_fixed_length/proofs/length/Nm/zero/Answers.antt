use Rattle.std.proofs.Common.{rules}
use Rattle.ngc_fixed_length.proofs.length.Nm.zero.Goals as goal

pub returns : goal.returns
returns c = search rules
