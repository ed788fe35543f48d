use Rattle.std.proofs.Common.{rules}
use Rattle.ngc_certificate.proofs.fault.PieceFault.number.Goals as goal

pub returns-in-Chain : goal.returns-in-Chain
returns-in-Chain c = search rules
