use Rattle.std.proofs.Common.{rules}
use Rattle.ngc_certificate_text.proofs.fault.CertificateFault.line.Goals as goal

pub returns-in-WrongHeader : goal.returns-in-WrongHeader
returns-in-WrongHeader c = search rules
