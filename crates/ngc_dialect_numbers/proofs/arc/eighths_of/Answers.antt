use Rattle.std.proofs.Common.{◌*◌, arith}
use Rattle.ngc_dialect_numbers.proofs.Quotients.{quotient_at_most}
use Rattle.ngc_dialect_numbers.proofs.arc.eighths_of.Goals as goal

pub returns-clause-bound : goal.returns-clause-bound
returns-clause-bound c = quotient_at_most (8 * c.args.low) c.args.high 8 (omega arith) (omega arith)
