-- The numbers and lines of faults. Our own.
use Rattle.std.specs.Prelude.{ℕ, Option, Some, None}
use Rattle.ngc_certificate_text.specs.declared.fault.CertificateFault.{CertificateFault}
use Rattle.ngc_certificate_text.specs.declared.fault.CertificateFault.TheVariants.{WrongHeader}
use Rattle.ngc_certificate_text.specs.declared.fault.CertificateFault.TheVariants.{BadLine}
use Rattle.ngc_certificate_text.specs.declared.fault.CertificateFault.TheVariants.{OutOfRange}
use Rattle.ngc_certificate_text.specs.declared.fault.CertificateFault.TheVariants.{Memory}
use Rattle.ngc_certificate_text.specs.declared.fault.CertificateFault.TheVariants.{ReadFailed}

abbrev pub number_of : CertificateFault → ℕ
number_of WrongHeader = 302
number_of (BadLine n) = 301
number_of (OutOfRange n) = 303
number_of Memory = 900
number_of ReadFailed = 901

-- the line at fault, from 1
abbrev pub line_of : CertificateFault → Option ℕ
line_of WrongHeader = Some 1
line_of (BadLine n) = Some n
line_of (OutOfRange n) = Some n
line_of Memory = None
line_of ReadFailed = None
