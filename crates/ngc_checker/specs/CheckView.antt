-- The future results of a reader that checks a certificate, as functions of the bytes that follow.
-- Our own.
use Rattle.std.specs.Prelude.{◌≡◌, ℕ, List, Option, Some, None, Result, Ok, Err}
use Rattle.ngc_canonical.specs.Meaning.{Program}
use Rattle.ngc_canonical.specs.State.{Setup}
use Rattle.ngc_certificate_text.specs.declared.fault.CertificateFault.{CertificateFault}
use Rattle.ngc_certificate_text.specs.Ahead.{made_with}
use Rattle.ngc_certificate_text.specs.Certificate.{CertificateData}
use Rattle.ngc_certificate_text.specs.LinesView.{room_of}
use Rattle.ngc_certificate_text.specs.Reader.{outcome_by, firm_by}
use Rattle.ngc_certificate_text.specs.ParsedPart.{parsed_certificate}
use Rattle.ngc_checker.specs.declared.check_fault.CheckReadFault.{CheckReadFault}
use Rattle.ngc_checker.specs.declared.check_fault.CheckReadFault.TheVariants as reads
use Rattle.ngc_checker.specs.declared.check_reader.CheckReader.{CheckReader}
use Rattle.ngc_checker.specs.declared.fault.CheckFault.{CheckFault}
use Rattle.ngc_checker.specs.Accepted.{AcceptedData, Answers, Keeps}
use Rattle.ngc_checker.specs.Checked.{judged, accepted_by}
use Rattle.ngc_checker.specs.FirstRefusal.{first_refusal, job_refusal}
use Rattle.ngc_job.specs.Job.{JobData}

-- the result of a text: its fault, or else the first refusal of its certificate, or none
abbrev pub Verdict : Type 0
Verdict = Result (Option CheckFault) CertificateFault

abbrev pub text_verdict : Program → Setup → List ℕ → Verdict
text_verdict program setup text = made_with (first_refusal program setup) (parsed_certificate text)

-- the same of a certificate for a job
abbrev pub job_verdict : JobData → List ℕ → Verdict
job_verdict j text = made_with (job_refusal j) (parsed_certificate text)

-- its result if these bytes follow those read so far, and no more
abbrev pub outcome_in : {A : Type 0} → CheckReader A → List ℕ → Verdict
outcome_in r rest = outcome_by r.refusal (judged r.text) rest

-- its result if those bytes follow the certain part of the text after these
abbrev pub firm_in : {A : Type 0} → CheckReader A → List ℕ → List ℕ → Verdict
firm_in r bytes rest = firm_by r.refusal (judged r.text) bytes rest

-- the fault that was returned already
abbrev pub refusal_in : {A : Type 0} → CheckReader A → Option CertificateFault
refusal_in r = r.refusal

-- the program that an acceptance returns; nothing if the program is refused
abbrev pub accepted_in : {A : Type 0} → CheckReader A → Option AcceptedData
accepted_in r = accepted_by r.text.judge

-- the greatest number of further bytes of the text
abbrev pub room_in : {A : Type 0} → CheckReader A → ℕ
room_in r = room_of r.text.lines

-- the result is acceptance with the stored program if nothing is refused, and otherwise the text's
-- fault or the first refusal
abbrev pub VerdictResultIs : {X : Type 0} → (X → AcceptedData) → Option AcceptedData →
    Result X CheckReadFault → Verdict → Type 0
VerdictResultIs view kept (Ok x) says = (says ≡ Ok None) × (kept ≡ Some (view x))
VerdictResultIs view kept (Err (reads.Certificate fault)) says = says ≡ Err fault
VerdictResultIs view kept (Err (reads.Check fault)) says = says ≡ Ok (Some fault)

-- ---- the whole text

-- the result of a reader of a certificate's text: the text's fault, or else the checker's result
-- for its certificate
abbrev pub ReturnsParsed : {X : Type 0} → (X → AcceptedData) → Program → Setup → List ℕ →
    Result X CheckReadFault → Type 0
ReturnsParsed view program setup text (Ok x) =
    (c : CertificateData) × (parsed_certificate text ≡ Ok c) × Answers view program setup c (Ok x)
ReturnsParsed view program setup text (Err (reads.Certificate fault)) =
    parsed_certificate text ≡ Err fault
ReturnsParsed {X} view program setup text (Err (reads.Check fault)) = (c : CertificateData) ×
    (parsed_certificate text ≡ Ok c) × Answers {X = X} view program setup c (Err fault)

-- The result of a reader for the joined pieces is the checker's result for their certificate, or
-- the text's fault.
abbrev pub VerdictIsAnswer : Type 0
VerdictIsAnswer =
    (program : Program) (setup : Setup) (text : List ℕ) (kept : Option AcceptedData)
    (answer : Result AcceptedData CheckReadFault)
    → ((a : AcceptedData) → kept ≡ Some a → Keeps program setup a)
    → VerdictResultIs (λ a. a) kept answer (text_verdict program setup text) →
    ReturnsParsed (λ a. a) program setup text answer
