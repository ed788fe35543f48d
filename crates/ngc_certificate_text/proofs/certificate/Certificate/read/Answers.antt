use Rattle.ngc_certificate_text.proofs.ReturnedCertificates.{motions_given}
use Rattle.ngc_certificate_text.proofs.certificate.Certificate.read.Goals as goal

pub returns-clause-said : goal.returns-clause-said
returns-clause-said g c = motions_given _ c.read_form.result c.read_form.ensures.form c.read_form.ensures.said
