-- The result of checking a certificate from a source. Our own.
use Rattle.std.specs.Prelude.{◌≡◌, ℕ, List, Option, Some, None, Result, Ok, Err}
use Rattle.ngc_canonical.specs.Meaning.{Program}
use Rattle.ngc_canonical.specs.State.{Setup}
use Rattle.ngc_certificate_text.specs.Pulled.{FailsByReading as FailsByText}
use Rattle.ngc_certificate_text.specs.Reader.{FaultIs}
use Rattle.ngc_checker.specs.declared.check_fault.CheckReadFault.{CheckReadFault}
use Rattle.ngc_checker.specs.declared.check_fault.CheckReadFault.TheVariants as reads
use Rattle.ngc_checker.specs.Accepted.{AcceptedData, Keeps}
use Rattle.ngc_checker.specs.CheckView.{Verdict, job_verdict, text_verdict}
use Rattle.ngc_checker.specs.Held.{accepted_of}
use Rattle.ngc_job.specs.Job.{JobData}

-- by what a reader says of a whole text: acceptance of what is kept if the text has no fault and
-- nothing is refused; otherwise the text's fault, lack of memory, the source's failure, or the first
-- refusal
abbrev pub Returns : {X : Type 0} → (X → AcceptedData) → Option AcceptedData → Verdict →
    Result X CheckReadFault → Type 0
Returns view kept says (Ok x) = (says ≡ Ok None) × (kept ≡ Some (view x))
Returns view kept says (Err (reads.Certificate fault)) = FaultIs fault says
Returns view kept says (Err (reads.Check fault)) = says ≡ Ok (Some fault)

-- the result is acceptance if the text has no fault and nothing is refused, with the program that
-- the checker stores; otherwise it is the text's fault, lack of memory, the source's failure, or
-- the first refusal
abbrev pub ReturnsOfText : {X : Type 0} → (X → AcceptedData) → Program → Setup → List ℕ →
    Result X CheckReadFault → Type 0
ReturnsOfText view program setup text (Ok x) =
    (text_verdict program setup text ≡ Ok None) × Keeps program setup (view x)
ReturnsOfText view program setup text (Err (reads.Certificate fault)) =
    FaultIs fault (text_verdict program setup text)
ReturnsOfText view program setup text (Err (reads.Check fault)) =
    text_verdict program setup text ≡ Ok (Some fault)

-- The result for a job: acceptance of the job if the text has no fault and nothing is refused;
-- otherwise it is the text's fault, the source's failure, or the first refusal.
abbrev pub ReturnsOfJob : {X : Type 0} → (X → AcceptedData) → JobData → List ℕ →
    Result X CheckReadFault → Type 0
ReturnsOfJob view j text (Ok x) = (job_verdict j text ≡ Ok None) × (view x ≡ accepted_of j)
ReturnsOfJob view j text (Err (reads.Certificate fault)) = FaultIs fault (job_verdict j text)
ReturnsOfJob view j text (Err (reads.Check fault)) = job_verdict j text ≡ Ok (Some fault)

-- the count of failures rises if the result is that the source failed, and stays the same otherwise
abbrev pub FailsByReading : {X : Type 0} → Result X CheckReadFault → ℕ → ℕ → Type 0
FailsByReading (Ok x) old new = new ≡ old
FailsByReading {X} (Err (reads.Certificate fault)) old new = FailsByText {X = X} (Err fault) old new
FailsByReading (Err (reads.Check fault)) old new = new ≡ old
