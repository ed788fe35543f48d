-- The checker's verdict on the program of one file and the certificate of another. Our own.
use Rattle.std.specs.Prelude.{◌≡◌, ℕ, List, Result, Ok, Err}
use Rattle.ngc_canonical.specs.Meaning.{Program as ProgramLines}
use Rattle.ngc_canonical.specs.State.{Setup}
use Rattle.ngc_certificate_text.specs.Certificate.{CertificateData}
use Rattle.ngc_certificate_text.specs.ParsedPart.{parsed_certificate}
use Rattle.ngc_certificate_text.specs.declared.fault.CertificateFault.{CertificateFault}
use Rattle.ngc_checker.specs.Accepted.{AcceptedData, Answers}
use Rattle.ngc_checker.specs.declared.fault.CheckFault.{CheckFault}
use Rattle.ngc_inputs.specs.Jobs.{AreSent, IsNoCertificate}

-- what the checker returns: what it accepted, or the first refusal
abbrev pub Verdict : Type 0
Verdict = Result AcceptedData CheckFault

-- the checker's verdict on the program of one file and the certificate of another
pub record IsVerdict (setup : Setup) (bytes text : List ℕ) (verdict : Verdict) : Type 0 where
  pub program : ProgramLines
  pub certificate : CertificateData
  pub given : AreSent bytes text program certificate
  pub answers : Answers (λ a. a) program setup certificate verdict

-- Of a program and the text of a certificate: the text is a certificate and this is the checker's
-- verdict on both, or the text isn't a certificate.
abbrev pub Judges : ProgramLines → Setup → List ℕ → Result Verdict CertificateFault → Type 0
Judges program setup text (Ok verdict) = (c : CertificateData) ×
    (parsed_certificate text ≡ Ok c) × Answers (λ a. a) program setup c verdict
Judges program setup text (Err fault) = IsNoCertificate text fault
