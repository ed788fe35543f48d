-- The results of certifying and checking a program, from the results of their parts.
use Rattle.std.proofs.Common.{◌≡◌, ℕ, List, Option, Some, None, Bool, true, Ok, Err, IfSome, refl, subst, sym}
use Rattle.std.specs.Io.KnownBytes.{Appends, Keeps}
use Rattle.ngc_text.specs.Written.{AppendsPrefix}
use Rattle.ngc_text.specs.declared.writing.WriteFault.{WriteFault}
use Rattle.ngc_line_reader.specs.Grammar.{Reading}
use Rattle.ngc_line_reader.specs.ProgramText.{ProgramText, program_of, AreReadings, HaveReadings}
use Rattle.ngc_canonical.specs.declared.fault.ProgramFault.{ProgramFault}
use Rattle.ngc_canonical.specs.declared.fault.ProgramFault.TheVariants as programs
use Rattle.ngc_canonical.specs.State.{Setup}
use Rattle.ngc_canonical.specs.declared.fault.Fault.{Fault}
use Rattle.ngc_canonical.specs.Meaning.{Program as ProgramLines, Fails, meaning, parsed_program}
use Rattle.ngc_machine_files.specs.Machine.{MachineFile}
use Rattle.ngc_certificate_text.specs.Certificate.{CertificateData}
use Rattle.ngc_certificate_text.specs.ParsedPart.{parsed_certificate}
use Rattle.ngc_certificate_text.specs.Joined.{Form}
use Rattle.ngc_certificate_text.specs.Spelling.{spelling}
use Rattle.ngc_certificate_text.specs.declared.piece.Setting.{Setting}
use Rattle.ngc_certificate_text.specs.declared.piece.Setting.TheVariants.{Off, On}
use Rattle.ngc_certificate.specs.declared.fault.MakeFault.{MakeFault}
use Rattle.ngc_certificate.specs.declared.fault.MakeFault.TheVariants.{NotCleared, Memory}
use Rattle.ngc_certificate.specs.Made.{IsMade}
use Rattle.ngc_certificate.specs.Valid.{IsValid}
use Rattle.ngc_job.specs.Job.{JobData, IsJobOf, IsRefusedAt, commands_in}
use Rattle.ngc_command_line.specs.declared.options.Format.{Format}
use Rattle.ngc_inputs.specs.declared.fault.AnswerFault.{AnswerFault}
use Rattle.ngc_inputs.specs.declared.fault.AnswerFault.TheVariants as answers
use Rattle.ngc_inputs.specs.Jobs.{IsProgram, AreMeanings, IsMadeFor, IsCertificateFor, WhyNotMade, refused_at, Certifies, AreSent, IsAcceptedText, Checks}
use Rattle.ngc_inputs.specs.Jobs.{IsRefusedAt as IsRefusedProgram}
use Rattle.ngc_inputs.specs.Jobs.{IsFormFor, IsMadeOf, IsUnmade, accepted_text}

pub if_known : (known : Option (List ℕ)) (P Q : List ℕ → Type 0) → ((bytes : List ℕ) → P bytes → Q bytes) → IfSome known P → IfSome known Q
if_known None P Q on p = tt
if_known (Some bytes) P Q on p = on bytes p

abbrev is_program : (bytes : List ℕ) (text : ProgramText) → program_of bytes ≡ Ok text → (have : HaveReadings text.lines) →
    IsProgram bytes (parsed_program text have.readings)
is_program bytes text is_text have = record {
  text = text;
  is_text = is_text;
  readings = have.readings;
  are_readings = have.are;
  is_parsed = refl;
}

-- ---- certifying

-- the job of a program that was read
abbrev pub IsJobFor : ProgramText → Setup → JobData → Type 0
IsJobFor text setup j = (rs : List Reading) → AreReadings text.lines rs → IsJobOf (parsed_program text rs) setup j

abbrev pub means_job : (setup : Setup) (bytes : List ℕ) (text : ProgramText) (j : JobData) → program_of bytes ≡ Ok text → HaveReadings text.lines
    → IsJobFor text setup j → AreMeanings setup bytes j.off (commands_in true j)
means_job setup bytes text j is_text have is_job = record {
  program = parsed_program text have.readings;
  is_program = is_program bytes text is_text have;
  off_means = (is_job have.readings have.are).off;
  on_means = (is_job have.readings have.are).on;
}

abbrev pub made_for_file : (setup : Setup) (bytes : List ℕ) (cuts : ℕ) (text : ProgramText) (j : JobData) (c : CertificateData) → program_of bytes ≡ Ok text →
    HaveReadings text.lines → IsJobFor text setup j
    → IsMadeOf j cuts c → IsMadeFor setup bytes cuts c
made_for_file setup bytes cuts text j c is_text have is_job made =
    let same = (is_job have.readings have.are).machine in
    record {
      off = j.off;
      on = commands_in true j;
      means = means_job setup bytes text j is_text have is_job;
      made = subst (λ (m : MachineFile). IsMade m cuts j.off (commands_in true j) (Ok c)) same made.made;
      off_valid = subst (λ (m : MachineFile). IsValid m j.off c.off) same made.off_valid;
      on_valid = subst (λ (m : MachineFile). IsValid m (commands_in true j) c.on) same made.on_valid;
    }

pub form_for_file : (setup : Setup) (bytes : List ℕ) (cuts : ℕ) (format : Format) (text : ProgramText) (j : JobData) (f : Form) →
    program_of bytes ≡ Ok text → HaveReadings text.lines → IsJobFor text setup j
    → IsFormFor j cuts format f → IsCertificateFor setup bytes cuts format f
form_for_file setup bytes cuts format text j f is_text have is_job is = record {
  certificate = is.certificate;
  made = made_for_file setup bytes cuts text j is.certificate is_text have is_job is.made;
  written = is.written;
}

pub unmade_for_file : (setup : Setup) (bytes : List ℕ) (cuts : ℕ) (text : ProgramText) (j : JobData) (fault : MakeFault) → program_of bytes ≡ Ok text →
    HaveReadings text.lines → IsJobFor text setup j
    → IsUnmade j cuts fault → WhyNotMade setup bytes cuts (answers.Make fault)
unmade_for_file setup bytes cuts text j Memory is_text have is_job is = tt
unmade_for_file setup bytes cuts text j (NotCleared s k) is_text have is_job is =
    let same = (is_job have.readings have.are).machine in (
      j.off,
      commands_in true j,
      means_job setup bytes text j is_text have is_job,
      subst (λ (m : MachineFile). IsMade m cuts j.off (commands_in true j) (Err (NotCleared s k))) same is,
    )

-- a program that was read has no job at a setting
abbrev pub HasNoJob : ProgramText → Setup → Setting → ProgramFault → Type 0
HasNoJob text setup s fault = (rs : List Reading) → AreReadings text.lines rs → IsRefusedAt (parsed_program text rs) setup s fault

pub refused_program : (setup : Setup) (bytes : List ℕ) (text : ProgramText) (s : Setting) (line : ℕ) (e : Fault) → program_of bytes ≡ Ok text →
    HaveReadings text.lines → HasNoJob text setup s (programs.At line e)
    → (program : ProgramLines) × IsProgram bytes program × IsRefusedProgram setup program s (programs.At line e)
refused_program setup bytes text Off line e is_text have refused =
    (parsed_program text have.readings, is_program bytes text is_text have, refused have.readings have.are)
refused_program setup bytes text On line e is_text have refused =
    (parsed_program text have.readings, is_program bytes text is_text have, refused have.readings have.are)

refused_for_file : (setup : Setup) (bytes : List ℕ) (cuts : ℕ) (text : ProgramText) (s : Setting) (fault : ProgramFault) → program_of bytes ≡ Ok text →
    HaveReadings text.lines → HasNoJob text setup s fault
    → WhyNotMade setup bytes cuts (refused_at s fault)
refused_for_file setup bytes cuts text s programs.Memory is_text have refused = tt
refused_for_file setup bytes cuts text s (programs.At line e) is_text have refused = refused_program setup bytes text s line e is_text have refused

pub told_for_file : (setup : Setup) (bytes : List ℕ) (cuts : ℕ) (text : ProgramText) (s : Setting) (fault : ProgramFault) (told : AnswerFault)
    → told ≡ refused_at s fault → program_of bytes ≡ Ok text → HaveReadings text.lines → HasNoJob text setup s fault → WhyNotMade setup bytes cuts told
told_for_file setup bytes cuts text s fault told is is_text have refused =
    subst (WhyNotMade setup bytes cuts) (sym is) (refused_for_file setup bytes cuts text s fault is_text have refused)

-- each list of readings of the lines fails so
abbrev pub FailsSo : ProgramText → Setup → Bool → ProgramFault → Type 0
FailsSo text setup block_delete fault = (rs : List Reading) → AreReadings text.lines rs → Fails fault (meaning (parsed_program text rs) setup block_delete)

pub certified : (setup : Setup) (bytes : List ℕ) (cuts : ℕ) (format : Format) (old new : Option (List ℕ)) (f : Form) →
    IsCertificateFor setup bytes cuts format f → Appends old new (spelling f)
    → Certifies setup bytes cuts format old new (Ok tt)
certified setup bytes cuts format old new f is wrote = (f, is, wrote)

pub certifying_stopped : (setup : Setup) (bytes : List ℕ) (cuts : ℕ) (format : Format) (old new : Option (List ℕ)) (f : Form) (fault : WriteFault) →
    IsCertificateFor setup bytes cuts format f
    → AppendsPrefix old new (spelling f) → Certifies setup bytes cuts format old new (Err (answers.Write fault))
certifying_stopped setup bytes cuts format old new f fault is wrote = (f, is, wrote)

pub keeps_same : (known : Option (List ℕ)) → Keeps known known
keeps_same None = tt
keeps_same (Some bytes) = refl

pub nothing_certified : (setup : Setup) (bytes : List ℕ) (cuts : ℕ) (format : Format) (known : Option (List ℕ)) (fault : AnswerFault) →
    WhyNotMade setup bytes cuts fault → Certifies setup bytes cuts format known known (Err fault)
nothing_certified setup bytes cuts format known (answers.Refused setting fault) why = (why, keeps_same known)
nothing_certified setup bytes cuts format known (answers.Make fault) why = (why, keeps_same known)
nothing_certified setup bytes cuts format known _ why = absurd why

-- ---- checking

pub given : (bytes text : List ℕ) (program : ProgramText) (c : CertificateData) → program_of bytes ≡ Ok program → (have : HaveReadings program.lines) →
    parsed_certificate text ≡ Ok c
    → AreSent bytes text (parsed_program program have.readings) c
given bytes text program c is_text have said = record { is_program = is_program bytes program is_text have; is_certificate = said }

pub accepted : (setup : Setup) (bytes text : List ℕ) (old new : Option (List ℕ)) → IsAcceptedText setup bytes text → Appends old new accepted_text →
    Checks setup bytes text old new (Ok tt)
accepted setup bytes text old new is wrote = (is, wrote)

pub accepting_stopped : (setup : Setup) (bytes text : List ℕ) (old new : Option (List ℕ)) (fault : WriteFault) → IsAcceptedText setup bytes text
    → AppendsPrefix old new accepted_text → Checks setup bytes text old new (Err (answers.Write fault))
accepting_stopped setup bytes text old new fault is wrote = (is, wrote)
