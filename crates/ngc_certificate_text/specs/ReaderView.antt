-- The future results of a reader of a certificate, as functions of the bytes that follow. Our own.
use Rattle.std.specs.Prelude.{◌≡◌, ℕ, List, Option, Some, None, Result}
use Rattle.ngc_certificate_text.specs.declared.fault.CertificateFault.{CertificateFault}
use Rattle.ngc_certificate_text.specs.declared.reader.CertificateReader.{CertificateReader}
use Rattle.ngc_certificate_text.specs.Joined.{Form}
use Rattle.ngc_certificate_text.specs.LinesView.{room_of}
use Rattle.ngc_certificate_text.specs.Reader.{outcome_by, firm_by}
use Rattle.ngc_certificate_text.specs.Resumed.{resumed}
use Rattle.ngc_certificate_text.specs.ParsedPart.{parsed_form}

-- the result of a certificate's text
abbrev pub Outcome : Type 0
Outcome = Result Form CertificateFault

-- the result of the text if these bytes follow those read so far, and no more
abbrev pub outcome_in : {A : Type 0} → CertificateReader A → List ℕ → Outcome
outcome_in r rest = outcome_by r.refusal (resumed r.text) rest

-- its result if those bytes follow the certain part of the text after these
abbrev pub firm_in : {A : Type 0} → CertificateReader A → List ℕ → List ℕ → Outcome
firm_in r bytes rest = firm_by r.refusal (resumed r.text) bytes rest

-- the fault that was returned already
abbrev pub refusal_in : {A : Type 0} → CertificateReader A → Option CertificateFault
refusal_in r = r.refusal

-- the greatest number of further bytes of the text
abbrev pub room_in : {A : Type 0} → CertificateReader A → ℕ
room_in r = room_of r.text.lines

-- the result of a source's bytes depends only on the bytes not yet read
abbrev pub Goes : {A : Type 0} → Option (List ℕ) → Option (List ℕ) → CertificateReader A → Type 0
Goes None left r = Unit {0}
Goes (Some all) None r = ⊥
Goes (Some all) (Some left) r = parsed_form all ≡ outcome_in r left
