use Rattle.std.proofs.Common.{arith}
use Rattle.ngc_certificate.proofs.not_cleared.uncleared_from.Goals as goal

pub returns-clause-begins : goal.returns-clause-begins
returns-clause-begins g c = c.find_uncleared.ensures.begins c.args.first (omega (arith, c.from.ensures))
