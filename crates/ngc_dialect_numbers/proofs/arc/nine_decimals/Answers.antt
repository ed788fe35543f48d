use Rattle.std.proofs.Common.{◌*◌, arith}
use Rattle.ngc_dialect_numbers.proofs.Quotients.{quotient_at_most}
use Rattle.ngc_dialect_numbers.proofs.arc.nine_decimals.Goals as goal

pub returns-clause-bound : goal.returns-clause-bound
returns-clause-bound c = quotient_at_most (c.args.top * 1000000000) c.args.bottom 1000000000 (omega arith) (omega arith)
