use Rattle.std.proofs.Common.{rules}
use Rattle.ngc_certificate_text.proofs.certificate.Certificate.motions.Goals as goal

pub returns-in-Off : goal.returns-in-Off
returns-in-Off g c = search rules
