use Rattle.std.proofs.Common.{◌*◌, arith}
use Rattle.ngc_dialect_numbers.proofs.Quotients.{quotient_at_most}
use Rattle.ngc_dialect_numbers.proofs.tangent.inverse_ratio.Goals as goal

pub returns-clause-bound : goal.returns-clause-bound
returns-clause-bound c = quotient_at_most (c.low_cosine.result * 1000000000000000000) c.low_ratio.result 2000000000000000000 (omega arith) (omega arith)
