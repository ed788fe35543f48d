-- A certificate that is returned has the motions of its form.
use Rattle.std.proofs.Common.{◌≡◌, ℕ, ap, subst, Option, Some, None, Result, Ok, Err, List, sym, ◌∙◌}
use Rattle.std.specs.Prelude.{IfOk, IfSome}
use Rattle.ngc_certificate_text.specs.declared.certificate.Certificate.{Certificate}
use Rattle.ngc_certificate_text.specs.declared.fault.CertificateFault.{CertificateFault}
use Rattle.ngc_certificate_text.specs.declared.fault.CertificateFault.TheVariants.{WrongHeader, BadLine, OutOfRange, Memory, ReadFailed}
use Rattle.ngc_certificate_text.specs.Certificate.{CertificateData}
use Rattle.ngc_certificate_text.specs.Contents.{certificate_data, form_of}
use Rattle.ngc_certificate_text.specs.Given.{CertificateResultIs}
use Rattle.ngc_certificate_text.specs.Joined.{Form, contents}
use Rattle.ngc_certificate_text.specs.ParsedPart.{made_with, parsed_form, parsed_certificate}
use Rattle.ngc_certificate_text.proofs.LinesAhead.{certificate_is}

abbrev ok_data : CertificateData → Result CertificateData CertificateFault
ok_data c = Ok c

given : {A : Type 0} (r : Result (Certificate A) CertificateFault) (says : Result Form CertificateFault) → CertificateResultIs form_of r says →
    IfOk r (λ c. certificate_data c ≡ contents (form_of c))
    → CertificateResultIs certificate_data r (made_with contents says)
given (Ok c) says h same = ap (made_with contents) h ∙ ap ok_data (sym same)
given (Err WrongHeader) says h same = ap (made_with contents) h
given (Err (BadLine n)) says h same = ap (made_with contents) h
given (Err (OutOfRange n)) says h same = ap (made_with contents) h
given (Err Memory) says h same = tt
given (Err ReadFailed) says h same = tt

pub motions_given : {A : Type 0} (left : Option (List ℕ)) (r : Result (Certificate A) CertificateFault) →
    IfSome left (λ bytes. CertificateResultIs form_of r (parsed_form bytes))
    → IfOk r (λ c. certificate_data c ≡ contents (form_of c)) → IfSome left (λ bytes. CertificateResultIs certificate_data r (parsed_certificate bytes))
motions_given None r h same = tt
motions_given (Some bytes) r h same =
    subst (λ (says : Result CertificateData CertificateFault). CertificateResultIs certificate_data r says) (sym (certificate_is bytes)) (given r (parsed_form bytes) h same)
