use Rattle.std.proofs.Common.{rules}
use Rattle.ngc_certificate.proofs.pieces.pieces_fault.Goals as goal

pub returns : goal.returns
returns g c = search rules
