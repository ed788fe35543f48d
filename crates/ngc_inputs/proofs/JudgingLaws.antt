-- The checker's verdict on the program of one file and the certificate of another, from its verdict
-- on the certificate's text.
use Rattle.std.proofs.Common.{◌≡◌, ℕ, List, Option, Some, None, Ok, Err, IfSome, refl, subst, sym}
use Rattle.std.specs.Prelude.{IsOk}
use Rattle.ngc_canonical.specs.Meaning.{Program as ProgramLines, parsed_program}
use Rattle.ngc_canonical.specs.State.{Setup}
use Rattle.ngc_certificate_text.specs.ParsedPart.{parsed_certificate}
use Rattle.ngc_certificate_text.specs.declared.fault.CertificateFault.{CertificateFault}
use Rattle.ngc_certificate_text.specs.declared.fault.CertificateFault.TheVariants as texts
use Rattle.ngc_checker.proofs.AnswerLaw.{first_is, made_err, made_ok}
use Rattle.ngc_checker.specs.Accepted.{AcceptedData, Answers}
use Rattle.ngc_checker.specs.CheckSource.{ReturnsOfText}
use Rattle.ngc_checker.specs.FirstRefusal.{first_refusal}
use Rattle.ngc_checker.specs.declared.check_fault.CheckReadFault.TheVariants as reads
use Rattle.ngc_checker.specs.declared.fault.CheckFault.{CheckFault}
use Rattle.ngc_line_reader.specs.ProgramText.{ProgramText, program_of, HaveReadings}
use Rattle.ngc_inputs.specs.Jobs.{Checks, IsAcceptedText, IsNoCertificate}
use Rattle.ngc_inputs.specs.Judging.{IsVerdict, Judges, Verdict}
use Rattle.ngc_inputs.specs.declared.fault.AnswerFault.TheVariants as answers
use Rattle.ngc_inputs.proofs.JobLaws.{given, if_known, keeps_same}

-- ---- of a text

pub accepts : (program : ProgramLines) (setup : Setup) (text : List ℕ) (a : AcceptedData) → ReturnsOfText (λ a. a) program setup text (Ok a) →
    Judges program setup text (Ok (Ok a))
accepts program setup text a says =
    let said = made_ok (first_refusal program setup) (parsed_certificate text) None says.0 in
    (said.0, said.1, (said.2, says.1))

pub refuses : (program : ProgramLines) (setup : Setup) (text : List ℕ) (fault : CheckFault)
    → ReturnsOfText {X = AcceptedData} (λ a. a) program setup text (Err (reads.Check fault)) → Judges program setup text (Ok (Err fault))
refuses program setup text fault says =
    let first = first_refusal program setup in
    let said = made_ok first (parsed_certificate text) (Some fault) says in
    (said.0, said.1, first_is fault (first said.0) said.2)

pub says_none : (program : ProgramLines) (setup : Setup) (text : List ℕ) (fault : CertificateFault)
    → ReturnsOfText {X = AcceptedData} (λ a. a) program setup text (Err (reads.Certificate fault)) → Judges program setup text (Err fault)
says_none program setup text texts.WrongHeader says = made_err (first_refusal program setup) (parsed_certificate text) texts.WrongHeader says
says_none program setup text (texts.BadLine line) says = made_err (first_refusal program setup) (parsed_certificate text) (texts.BadLine line) says
says_none program setup text (texts.OutOfRange line) says = made_err (first_refusal program setup) (parsed_certificate text) (texts.OutOfRange line) says
says_none program setup text texts.Memory says = tt
says_none program setup text texts.ReadFailed says = tt

-- ---- of files

pub verdict_on : (setup : Setup) (bytes text : List ℕ) (program : ProgramText) (verdict : Verdict)
    → program_of bytes ≡ Ok program → (have : HaveReadings program.lines) → Judges (parsed_program program have.readings) setup text (Ok verdict)
    → IsVerdict setup bytes text verdict
verdict_on setup bytes text program verdict is_text have (c, said, answers) = record {
  program = parsed_program program have.readings;
  certificate = c;
  given = given bytes text program c is_text have said;
  answers = answers;
}

-- a text that is judged is a certificate
pub judged_is_read : (program : ProgramLines) (setup : Setup) (verdict : Verdict) (known source : Option (List ℕ)) → source ≡ known
    → IfSome source (λ text. Judges program setup text (Ok verdict)) → IfSome known (λ text. IsOk (parsed_certificate text))
judged_is_read program setup verdict known source same judges =
    if_known known (λ text. Judges program setup text (Ok verdict)) (λ text. IsOk (parsed_certificate text))
    (λ text says. subst IsOk (sym says.1) refl)
    (subst (λ (k : Option (List ℕ)). IfSome k (λ text. Judges program setup text (Ok verdict))) same judges)

-- ---- of checking

pub accepted_text_of : (setup : Setup) (bytes text : List ℕ) (verdict : Verdict) (a : AcceptedData) → IsVerdict setup bytes text verdict → verdict ≡ Ok a
    → IsAcceptedText setup bytes text
accepted_text_of setup bytes text verdict a is accepts = record {
  program = is.program;
  certificate = is.certificate;
  given = is.given;
  none_refused = (subst (Answers (λ x. x) is.program setup is.certificate) accepts is.answers).0;
}

pub first_told : (setup : Setup) (bytes text : List ℕ) (known : Option (List ℕ)) (verdict : Verdict) (fault : CheckFault)
    → IsVerdict setup bytes text verdict → verdict ≡ Err fault → Checks setup bytes text known known (Err (answers.Check fault))
first_told setup bytes text known verdict fault is refuses =
    ((is.program, is.certificate, is.given, subst (Answers (λ a. a) is.program setup is.certificate) refuses is.answers), keeps_same known)

pub none_told : (setup : Setup) (bytes text : List ℕ) (known : Option (List ℕ)) (fault : CertificateFault) → IsNoCertificate text fault
    → Checks setup bytes text known known (Err (answers.Certificate fault))
none_told setup bytes text known fault none = (none, keeps_same known)
