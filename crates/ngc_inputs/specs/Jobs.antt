-- The results of certifying and checking a program. Our own.
use Rattle.std.specs.Prelude.{◌≡◌, ℕ, List, Option, None, Result, Ok, Err, codes, true, false}
use Rattle.std.specs.Io.KnownBytes.{Appends, Keeps}
use Rattle.ngc_text.specs.Written.{AppendsPrefix}
use Rattle.ngc_line_reader.specs.Grammar.{Reading}
use Rattle.ngc_line_reader.specs.ProgramText.{ProgramText, program_of, AreReadings}
use Rattle.ngc_line_reader.specs.ProgramView.{FaultIs}
use Rattle.ngc_commands.specs.declared.command.Command.{Command}
use Rattle.ngc_canonical.specs.declared.fault.ProgramFault.{ProgramFault}
use Rattle.ngc_canonical.specs.declared.fault.ProgramFault.TheVariants as programs
use Rattle.ngc_canonical.specs.State.{Setup}
use Rattle.ngc_canonical.specs.Meaning.{Program as ProgramLines, meaning, parsed_program}
use Rattle.ngc_certificate_text.specs.declared.piece.Setting.{Setting}
use Rattle.ngc_certificate_text.specs.declared.piece.Setting.TheVariants.{Off, On}
use Rattle.ngc_certificate_text.specs.declared.fault.CertificateFault.{CertificateFault}
use Rattle.ngc_certificate_text.specs.declared.fault.CertificateFault.TheVariants as texts
use Rattle.ngc_certificate_text.specs.Certificate.{CertificateData}
use Rattle.ngc_certificate_text.specs.ParsedPart.{parsed_certificate}
use Rattle.ngc_certificate_text.specs.Joined.{Form, Parted}
use Rattle.ngc_certificate_text.specs.Spelling.{spelling}
use Rattle.ngc_command_line.specs.declared.options.Format.{Format}
use Rattle.ngc_command_line.specs.declared.options.Format.TheVariants.{One, Two}
use Rattle.ngc_certificate.specs.declared.fault.MakeFault.{MakeFault}
use Rattle.ngc_certificate.specs.declared.fault.MakeFault.TheVariants.{NotCleared, Memory}
use Rattle.ngc_certificate.specs.Common.{IsJoinedOf}
use Rattle.ngc_certificate.specs.Made.{IsMade}
use Rattle.ngc_certificate.specs.Valid.{IsValid}
use Rattle.ngc_job.specs.Job.{JobData, commands_in}
use Rattle.ngc_checker.specs.Accepted.{IsFirst}
use Rattle.ngc_checker.specs.FirstRefusal.{first_refusal}
use Rattle.ngc_inputs.specs.declared.fault.AnswerFault.{AnswerFault}
use Rattle.ngc_inputs.specs.declared.fault.AnswerFault.TheVariants as answers

-- the program that a file's text is, by readings of its lines
pub record IsProgram (bytes : List ℕ) (program : ProgramLines) : Type 0 where
  pub text : ProgramText
  pub is_text : program_of bytes ≡ Ok text
  pub readings : List Reading
  pub are_readings : AreReadings text.lines readings
  pub is_parsed : program ≡ parsed_program text readings

-- a file's program has these commands at the two settings of block delete
pub record AreMeanings (setup : Setup) (bytes : List ℕ) (off on : List Command) : Type 0 where
  pub program : ProgramLines
  pub is_program : IsProgram bytes program
  pub off_means : meaning program setup false ≡ Ok off
  pub on_means : meaning program setup true ≡ Ok on

-- ---- certifying

-- the certificate that is made for a file, and it is valid
pub record IsMadeFor (setup : Setup) (bytes : List ℕ) (cuts : ℕ) (c : CertificateData) :
    Type 0 where
  pub off : List Command
  pub on : List Command
  pub means : AreMeanings setup bytes off on
  pub made : IsMade setup.machine cuts off on (Ok c)
  pub off_valid : IsValid setup.machine off c.off
  pub on_valid : IsValid setup.machine on c.on

-- a certificate in a format: in version 2 it is joined where the settings begin alike
abbrev pub IsWrittenAs : Format → List Command → List Command → CertificateData → Form → Type 0
IsWrittenAs One off on c f = f ≡ Parted c
IsWrittenAs Two off on c f = IsJoinedOf off on c f

-- the certificate that is made for a file, in a format
pub record IsCertificateFor (setup : Setup) (bytes : List ℕ) (cuts : ℕ) (format : Format)
    (f : Form) : Type 0 where
  pub certificate : CertificateData
  pub made : IsMadeFor setup bytes cuts certificate
  pub written : IsWrittenAs format made.off made.on certificate f

-- a file's program is refused at a setting, and isn't with block delete off before it is with block
-- delete on
abbrev pub IsRefusedAt : Setup → ProgramLines → Setting → ProgramFault → Type 0
IsRefusedAt setup program Off fault = meaning program setup false ≡ Err fault
IsRefusedAt setup program On fault = (off : List Command) × (meaning program setup false ≡ Ok off) ×
    (meaning program setup true ≡ Err fault)

-- why a refused program has no certificate
abbrev pub refused_at : Setting → ProgramFault → AnswerFault
refused_at setting (programs.At line fault) = answers.Refused setting (programs.At line fault)
refused_at setting programs.Memory = answers.Make Memory

-- no certificate is made for a file; lack of memory shows nothing
abbrev pub IsNotMade : Setup → List ℕ → ℕ → MakeFault → Type 0
IsNotMade setup bytes cuts Memory = Unit {0}
IsNotMade setup bytes cuts (NotCleared s k) =
    (off : List Command) × (on : List Command) × AreMeanings setup bytes off on ×
    IsMade setup.machine cuts off on (Err (NotCleared s k))

-- why no certificate is made for a file's program: it is refused, or it isn't cleared
abbrev pub WhyNotMade : Setup → List ℕ → ℕ → AnswerFault → Type 0
WhyNotMade setup bytes cuts (answers.Refused setting fault) =
    (program : ProgramLines) × IsProgram bytes program × IsRefusedAt setup program setting fault
WhyNotMade setup bytes cuts (answers.Make fault) = IsNotMade setup bytes cuts fault
WhyNotMade setup bytes cuts _ = ⊥

-- the certificate that is made for a job, and it is valid
pub record IsMadeOf (j : JobData) (cuts : ℕ) (c : CertificateData) : Type 0 where
  pub made : IsMade j.machine cuts j.off (commands_in true j) (Ok c)
  pub off_valid : IsValid j.machine j.off c.off
  pub on_valid : IsValid j.machine (commands_in true j) c.on

-- the certificate that is made for a job, in a format
pub record IsFormFor (j : JobData) (cuts : ℕ) (format : Format) (f : Form) : Type 0 where
  pub certificate : CertificateData
  pub made : IsMadeOf j cuts certificate
  pub written : IsWrittenAs format j.off (commands_in true j) certificate f

-- no certificate is made for a job; lack of memory shows nothing
abbrev pub IsUnmade : JobData → ℕ → MakeFault → Type 0
IsUnmade j cuts Memory = Unit {0}
IsUnmade j cuts (NotCleared s k) =
    IsMade j.machine cuts j.off (commands_in true j) (Err (NotCleared s k))

-- Of a program's file and a sink: the text of its certificate was written, or a prefix of it if the
-- sink failed; where none is made, the output is unchanged.
abbrev pub Certifies : Setup → List ℕ → ℕ → Format → Option (List ℕ) → Option (List ℕ) →
    Result (Unit {0}) AnswerFault → Type 0
Certifies setup bytes cuts format old new (Ok u) =
    (f : Form) × IsCertificateFor setup bytes cuts format f × Appends old new (spelling f)
Certifies setup bytes cuts format old new (Err (answers.Read fault)) =
    FaultIs fault (program_of bytes) × Keeps old new
Certifies setup bytes cuts format old new (Err (answers.Refused setting fault)) =
    WhyNotMade setup bytes cuts (answers.Refused setting fault) × Keeps old new
Certifies setup bytes cuts format old new (Err (answers.Make fault)) =
    WhyNotMade setup bytes cuts (answers.Make fault) × Keeps old new
Certifies setup bytes cuts format old new (Err (answers.Write fault)) =
    (f : Form) × IsCertificateFor setup bytes cuts format f × AppendsPrefix old new (spelling f)
Certifies setup bytes cuts format old new (Err _) = ⊥

-- ---- checking

-- the program of one file, and the certificate of another
pub record AreSent (bytes text : List ℕ) (program : ProgramLines) (c : CertificateData) :
    Type 0 where
  pub is_program : IsProgram bytes program
  pub is_certificate : parsed_certificate text ≡ Ok c

-- nothing is refused of the two files
pub record IsAcceptedText (setup : Setup) (bytes text : List ℕ) : Type 0 where
  pub program : ProgramLines
  pub certificate : CertificateData
  pub given : AreSent bytes text program certificate
  pub none_refused : first_refusal program setup certificate ≡ None

-- a text isn't a certificate, apart from lack of memory and a device's failure
abbrev pub IsNoCertificate : List ℕ → CertificateFault → Type 0
IsNoCertificate text texts.Memory = Unit {0}
IsNoCertificate text texts.ReadFailed = Unit {0}
IsNoCertificate text (texts.BadLine line) = parsed_certificate text ≡ Err (texts.BadLine line)
IsNoCertificate text texts.WrongHeader = parsed_certificate text ≡ Err texts.WrongHeader
IsNoCertificate text (texts.OutOfRange line) = parsed_certificate text ≡ Err (texts.OutOfRange line)

-- the one word that is written where nothing is refused
abbrev pub accepted_text : List ℕ
accepted_text = codes "accepted\n"

-- Of a program's file, a certificate's file and a sink: `accepted` was written where nothing is
-- refused, or a prefix of it if the sink failed; otherwise the first refusal is returned, and the
-- output is unchanged.
abbrev pub Checks : Setup → List ℕ → List ℕ → Option (List ℕ) → Option (List ℕ) →
    Result (Unit {0}) AnswerFault → Type 0
Checks setup bytes text old new (Ok u) =
    IsAcceptedText setup bytes text × Appends old new accepted_text
Checks setup bytes text old new (Err (answers.Read fault)) =
    FaultIs fault (program_of bytes) × Keeps old new
Checks setup bytes text old new (Err (answers.Certificate fault)) =
    IsNoCertificate text fault × Keeps old new
Checks setup bytes text old new (Err (answers.Check fault)) =
    ((program : ProgramLines) × (c : CertificateData) × AreSent bytes text program c ×
    IsFirst fault (first_refusal program setup c)) × Keeps old new
Checks setup bytes text old new (Err (answers.Write fault)) =
    IsAcceptedText setup bytes text × AppendsPrefix old new accepted_text
Checks setup bytes text old new (Err _) = ⊥
