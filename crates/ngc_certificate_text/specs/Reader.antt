-- The future results of a reader of a certificate's text, from the fault that it returned and what
-- it makes of the lines. Our own.
use Rattle.std.specs.Prelude.{◌≡◌, ℕ, List, Option, Some, None, Result, Ok, Err}
use Rattle.ngc_certificate_text.specs.declared.fault.CertificateFault.{CertificateFault}
use Rattle.ngc_certificate_text.specs.declared.fault.CertificateFault.TheVariants as faults
use Rattle.ngc_certificate_text.specs.Parted.{firm_lines}
use Rattle.ngc_certificate_text.specs.ParsedPart.{lines_of}

-- the result for some bytes, for a way to split them into lines
abbrev pub Saying : Type 0 → Type 0
Saying X = (List ℕ → List (List ℕ)) → List ℕ → Result X CertificateFault

-- the result of the text if these bytes follow and no more
abbrev pub outcome_by : {X : Type 0} → Option CertificateFault → Saying X → List ℕ →
    Result X CertificateFault
outcome_by None says rest = says lines_of rest
outcome_by (Some fault) says rest = Err fault

-- its result if those bytes follow the certain part of these
abbrev pub firm_by : {X : Type 0} → Option CertificateFault → Saying X → List ℕ → List ℕ →
    Result X CertificateFault
firm_by None says bytes rest = says (firm_lines rest) bytes
firm_by (Some fault) says bytes rest = Err fault

-- ---- a step

-- a fault is that of the text, unless it is lack of memory or the source's failure
abbrev pub FaultIs : {X : Type 0} → CertificateFault → Result X CertificateFault → Type 0
FaultIs faults.WrongHeader says = says ≡ Err faults.WrongHeader
FaultIs (faults.BadLine n) says = says ≡ Err (faults.BadLine n)
FaultIs (faults.OutOfRange n) says = says ≡ Err (faults.OutOfRange n)
FaultIs faults.Memory says = Unit {0}
FaultIs faults.ReadFailed says = Unit {0}

-- the result of the text is still open, or the fault is its result
abbrev pub StepResultIs : {X : Type 0} → Result (Unit {0}) CertificateFault →
    Result X CertificateFault → Result X CertificateFault → Type 0
StepResultIs (Ok done) before after = before ≡ after
StepResultIs (Err fault) before after = FaultIs fault before

-- a text is refused with this fault whatever bytes follow
abbrev pub Stands : {X : Type 0} → CertificateFault → (List ℕ → Result X CertificateFault) → Type 0
Stands fault says = (rest : List ℕ) → says rest ≡ Err fault

-- The result is the fault that is certain whatever follows, or none if there is none, unless memory
-- runs out.
abbrev pub AnswerIs : {X : Type 0} → Result (Unit {0}) CertificateFault →
    (List ℕ → Result X CertificateFault) → Type 0
AnswerIs (Ok done) says = (fault : CertificateFault) → ¬ Stands fault says
AnswerIs (Err faults.WrongHeader) says = Stands faults.WrongHeader says
AnswerIs (Err (faults.BadLine n)) says = Stands (faults.BadLine n) says
AnswerIs (Err (faults.OutOfRange n)) says = Stands (faults.OutOfRange n) says
AnswerIs (Err faults.Memory) says = Unit {0}
AnswerIs (Err faults.ReadFailed) says = Stands faults.ReadFailed says
