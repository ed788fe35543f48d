-- A verdict agrees with the checker's result.
use Rattle.std.proofs.Common.{◌≡◌, ℕ, List, Option, Some, None, Result, Ok, Err, ap, refl}
use Rattle.ngc_canonical.specs.Meaning.{Program}
use Rattle.ngc_canonical.specs.State.{Setup}
use Rattle.ngc_certificate_text.specs.declared.fault.CertificateFault.{CertificateFault}
use Rattle.ngc_certificate_text.specs.Ahead.{made_with}
use Rattle.ngc_certificate_text.specs.ParsedPart.{parsed_certificate}
use Rattle.ngc_checker.specs.declared.check_fault.CheckReadFault.{CheckReadFault}
use Rattle.ngc_checker.specs.declared.check_fault.CheckReadFault.TheVariants as reads
use Rattle.ngc_checker.specs.declared.fault.CheckFault.{CheckFault}
use Rattle.ngc_checker.specs.declared.fault.CheckFault.TheVariants as faults
use Rattle.ngc_checker.specs.Accepted.{AcceptedData, Keeps, IsFirst}
use Rattle.ngc_checker.specs.CheckView.{VerdictResultIs, ReturnsParsed, VerdictIsAnswer, text_verdict}
use Rattle.ngc_checker.specs.FirstRefusal.{first_refusal}

pub made_ok : {X Y : Type 0} (f : X → Y) (o : Result X CertificateFault) (y : Y) → made_with f o ≡ Ok y → (x : X) × (o ≡ Ok x) × (f x ≡ y)
made_ok f (Ok x) y h = (x, refl, cc h)
made_ok f (Err fault) y h = absurd (cc h)

pub made_err : {X Y : Type 0} (f : X → Y) (o : Result X CertificateFault) (fault : CertificateFault) → made_with f o ≡ Err fault → o ≡ Err fault
made_err f (Ok x) fault h = absurd (cc h)
made_err {X} f (Err other) fault h = let same : other ≡ fault = cc h in ap (λ (x : CertificateFault). refused x) same where
  refused : CertificateFault → Result X CertificateFault
  refused x = Err x

pub first_is : (fault : CheckFault) (o : Option CheckFault) → o ≡ Some fault → IsFirst fault o
first_is faults.Memory o h = tt
first_is (faults.Program s e) o h = h
first_is (faults.MotionsDiffer s k) o h = h
first_is (faults.Start i) o h = h
first_is (faults.Piece s k j e) o h = h
first_is (faults.Divided s k) o h = h
first_is (faults.ToolChange s k i) o h = h

answered : (program : Program) (setup : Setup) (text : List ℕ) (kept : Option AcceptedData) (answer : Result AcceptedData CheckReadFault) →
    ((a : AcceptedData) → kept ≡ Some a → Keeps program setup a)
    → VerdictResultIs (λ a. a) kept answer (text_verdict program setup text) → ReturnsParsed (λ a. a) program setup text answer
answered program setup text kept (Ok a) keeps h =
    let m = made_ok (first_refusal program setup) (parsed_certificate text) None h.0 in
    (m.0, m.1, (m.2, keeps a h.1))
answered program setup text kept (Err (reads.Certificate fault)) keeps h = made_err (first_refusal program setup) (parsed_certificate text) fault h
answered program setup text kept (Err (reads.Check fault)) keeps h =
    let m = made_ok (first_refusal program setup) (parsed_certificate text) (Some fault) h in
    (m.0, m.1, first_is fault (first_refusal program setup m.0) m.2)

pub law : VerdictIsAnswer
law = λ program setup text kept answer keeps h. answered program setup text kept answer keeps h
