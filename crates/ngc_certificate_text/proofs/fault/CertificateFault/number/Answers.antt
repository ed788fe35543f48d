use Rattle.std.proofs.Common.{rules}
use Rattle.ngc_certificate_text.proofs.fault.CertificateFault.number.Goals as goal

pub returns-in-WrongHeader : goal.returns-in-WrongHeader
returns-in-WrongHeader c = search rules

pub returns-in-BadLine : goal.returns-in-BadLine
returns-in-BadLine c = search rules
