-- The relation between the result of reading a certificate and its text. Our own.
use Rattle.std.specs.Prelude.{◌≡◌, Result, Ok, Err}
use Rattle.ngc_certificate_text.specs.declared.certificate.Certificate.{Certificate}
use Rattle.ngc_certificate_text.specs.declared.fault.CertificateFault.{CertificateFault}
use Rattle.ngc_certificate_text.specs.declared.fault.CertificateFault.TheVariants.{WrongHeader}
use Rattle.ngc_certificate_text.specs.declared.fault.CertificateFault.TheVariants.{BadLine}
use Rattle.ngc_certificate_text.specs.declared.fault.CertificateFault.TheVariants.{OutOfRange}
use Rattle.ngc_certificate_text.specs.declared.fault.CertificateFault.TheVariants.{Memory}
use Rattle.ngc_certificate_text.specs.declared.fault.CertificateFault.TheVariants.{ReadFailed}

-- the result is that of the text, except for lack of memory and the source's failure
abbrev pub CertificateResultIs : {A X : Type 0} → (Certificate A → X) →
    Result (Certificate A) CertificateFault
    → Result X CertificateFault → Type 0
CertificateResultIs view (Ok c) says = says ≡ Ok (view c)
CertificateResultIs view (Err WrongHeader) says = says ≡ Err WrongHeader
CertificateResultIs view (Err (BadLine n)) says = says ≡ Err (BadLine n)
CertificateResultIs view (Err (OutOfRange n)) says = says ≡ Err (OutOfRange n)
CertificateResultIs view (Err Memory) says = Unit {0}
CertificateResultIs view (Err ReadFailed) says = Unit {0}
