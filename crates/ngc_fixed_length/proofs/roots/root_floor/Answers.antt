use Rattle.std.proofs.Common.{arith}
use Rattle.ngc_fixed_length.proofs.RootLaws.{whole_root_is}
use Rattle.ngc_fixed_length.proofs.roots.root_floor.Goals as goal

pub returns-in-Ok-clause-value : goal.returns-in-Ok-clause-value
returns-in-Ok-clause-value c = whole_root_is c.args.x c.isqrt.result (omega arith) (omega arith) (omega arith)

pub returns-in-Err-clause-value : goal.returns-in-Err-clause-value
returns-in-Err-clause-value c = whole_root_is c.args.x c.isqrt-in-Err.result (omega arith) (omega arith) (omega arith)
