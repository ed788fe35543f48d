-- The result of checking a source's bytes, from the effects of its pieces.
use Rattle.std.proofs.Common.{◌≡◌, ℕ, List, [], ◌++◌, ap, subst, Option, Some, None, Result, Ok, Err, IfSome, sym, ◌∙◌}
use Rattle.std.specs.Io.KnownBytes.{Consumes, IsAtEnd}
use Rattle.ngc_canonical.specs.Meaning.{Program}
use Rattle.ngc_canonical.specs.State.{Setup}
use Rattle.ngc_certificate_text.specs.declared.fault.CertificateFault.{CertificateFault}
use Rattle.ngc_certificate_text.specs.declared.fault.CertificateFault.TheVariants as texts
use Rattle.ngc_certificate_text.specs.Reader.{FaultIs}
use Rattle.ngc_checker.specs.declared.check_fault.CheckReadFault.{CheckReadFault}
use Rattle.ngc_checker.specs.declared.check_fault.CheckReadFault.TheVariants as reads
use Rattle.ngc_checker.specs.Accepted.{AcceptedData, Keeps}
use Rattle.ngc_checker.specs.CheckSource.{Returns, ReturnsOfJob, ReturnsOfText}
use Rattle.ngc_checker.specs.CheckView.{Verdict, VerdictResultIs, job_verdict, text_verdict}
use Rattle.ngc_checker.specs.Held.{accepted_of}
use Rattle.ngc_job.specs.Job.{JobData}

-- the result of all bytes of a source depends only on the bytes not yet read
abbrev pub Goes : (List ℕ → Verdict) → Option (List ℕ) → Option (List ℕ) → (List ℕ → Verdict) → Type 0
Goes first None left says = Unit {0}
Goes first (Some all) None says = ⊥
Goes first (Some all) (Some left) says = first all ≡ says left

fault_is : (fault : CertificateFault) (says : Verdict) → says ≡ Err fault → FaultIs fault says
fault_is texts.WrongHeader says is = is
fault_is (texts.BadLine n) says is = is
fault_is (texts.OutOfRange n) says is = is
fault_is texts.Memory says is = tt
fault_is texts.ReadFailed says is = tt

answered : (kept : Option AcceptedData) (answer : Result AcceptedData CheckReadFault) (whole says : Verdict) → whole ≡ says →
    VerdictResultIs (λ a. a) kept answer says → Returns (λ a. a) kept whole answer
answered kept (Ok a) whole says is gives = (is ∙ gives.0, gives.1)
answered kept (Err (reads.Certificate fault)) whole says is gives = fault_is fault whole (is ∙ gives)
answered kept (Err (reads.Check fault)) whole says is gives = is ∙ gives

module _ (first says : List ℕ → Verdict) where
  -- a piece was refused
  pub refused : (fault : CertificateFault) (kept : Option AcceptedData) (all left now : Option (List ℕ)) (piece : List ℕ)
      → Goes first all left says → Consumes left now piece → ((rest : List ℕ) → FaultIs fault (says (piece ++ rest)))
      → IfSome all (λ text. Returns {X = AcceptedData} (λ a. a) kept (first text) (Err (reads.Certificate fault)))
  refused fault kept None left now piece goes took is = tt
  refused fault kept (Some all) None now piece goes took is = absurd goes
  refused fault kept (Some all) (Some left) None piece goes took is = absurd took
  refused fault kept (Some all) (Some left) (Some now) piece goes took is =
      subst (λ (v : Verdict). FaultIs fault v) (sym (goes ∙ ap says took)) (is now)

  -- nothing more arrived
  pub ended : (kept : Option AcceptedData) (answer : Result AcceptedData CheckReadFault) (all left now : Option (List ℕ)) (piece : List ℕ)
      → Goes first all left says → Consumes left now piece → piece ≡ [] → IsAtEnd now
      → VerdictResultIs (λ a. a) kept answer (says []) → IfSome all (λ text. Returns (λ a. a) kept (first text) answer)
  ended kept answer None left now piece goes took none end gives = tt
  ended kept answer (Some all) None now piece goes took none end gives = absurd goes
  ended kept answer (Some all) (Some left) None piece goes took none end gives = absurd took
  ended kept answer (Some all) (Some left) (Some now) piece goes took none end gives =
      answered kept answer (first all) (says []) (goes ∙ ap says took ∙ ap (λ (l : List ℕ). says (l ++ now)) none ∙ ap says end) gives

  -- the bytes after a piece change nothing
  pub cut_short : (kept : Option AcceptedData) (answer : Result AcceptedData CheckReadFault) (all left now : Option (List ℕ)) (piece : List ℕ)
      (after : List ℕ → Verdict) → Goes first all left says → Consumes left now piece
      → ((rest : List ℕ) → says (piece ++ rest) ≡ after rest) → ((rest : List ℕ) → after rest ≡ after [])
      → VerdictResultIs (λ a. a) kept answer (after []) → IfSome all (λ text. Returns (λ a. a) kept (first text) answer)
  cut_short kept answer None left now piece after goes took fed far gives = tt
  cut_short kept answer (Some all) None now piece after goes took fed far gives = absurd goes
  cut_short kept answer (Some all) (Some left) None piece after goes took fed far gives = absurd took
  cut_short kept answer (Some all) (Some left) (Some now) piece after goes took fed far gives =
      answered kept answer (first all) (after []) (goes ∙ ap says took ∙ fed now ∙ far now) gives

-- ---- what the reader was made for

-- a program
pub of_program : (program : Program) (setup : Setup) (says : List ℕ → Verdict) (kept : Option AcceptedData)
    → ((text : List ℕ) → text_verdict program setup text ≡ says text) → ((a : AcceptedData) → kept ≡ Some a → Keeps program setup a)
    → (all : Option (List ℕ)) (answer : Result AcceptedData CheckReadFault) → IfSome all (λ text. Returns (λ a. a) kept (says text) answer)
    → IfSome all (λ text. ReturnsOfText (λ a. a) program setup text answer)
of_program program setup says kept is keeps None answer returned = tt
of_program program setup says kept is keeps (Some text) (Ok a) returned = (is text ∙ returned.0, keeps a returned.1)
of_program program setup says kept is keeps (Some text) (Err (reads.Certificate fault)) returned =
    subst (λ (v : Verdict). FaultIs fault v) (sym (is text)) returned
of_program program setup says kept is keeps (Some text) (Err (reads.Check fault)) returned = is text ∙ returned

the_same : (kept : Option AcceptedData) (a b : AcceptedData) → kept ≡ Some a → kept ≡ Some b → b ≡ a
the_same kept a b one other = cc

-- a job
pub of_job : (j : JobData) (says : List ℕ → Verdict) (kept : Option AcceptedData)
    → ((text : List ℕ) → job_verdict j text ≡ says text) → kept ≡ Some (accepted_of j)
    → (all : Option (List ℕ)) (answer : Result AcceptedData CheckReadFault) → IfSome all (λ text. Returns (λ a. a) kept (says text) answer)
    → IfSome all (λ text. ReturnsOfJob (λ a. a) j text answer)
of_job j says kept is keeps None answer returned = tt
of_job j says kept is keeps (Some text) (Ok a) returned = (is text ∙ returned.0, the_same kept (accepted_of j) a keeps returned.1)
of_job j says kept is keeps (Some text) (Err (reads.Certificate fault)) returned =
    subst (λ (v : Verdict). FaultIs fault v) (sym (is text)) returned
of_job j says kept is keeps (Some text) (Err (reads.Check fault)) returned = is text ∙ returned
