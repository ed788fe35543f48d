use Rattle.std.proofs.Common.{rules}
use Rattle.ngc_fixed_length.proofs.value.Value.to_nm.Goals as goal

pub returns : goal.returns
returns c = search rules
