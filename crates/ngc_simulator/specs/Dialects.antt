-- The results of commands on a program for another control. Our own.
use Rattle.std.specs.Prelude.{◌≡◌, ℕ, List, Option, Some, None, Result, Ok, Err, Bool, true, false}
use Rattle.std.specs.Prelude.{IfSome, option_map}
use Rattle.std.specs.Io.KnownBytes.{Appends, Keeps}
use Rattle.ngc_text.specs.Written.{AppendsPrefix}
use Rattle.ngc_canonical.specs.State.{Setup}
use Rattle.ngc_commands.specs.declared.command.Command.{Command}
use Rattle.ngc_certificate_text.specs.Joined.{Form}
use Rattle.ngc_certificate_text.specs.Reader.{FaultIs}
use Rattle.ngc_certificate_text.specs.Spelling.{spelling}
use Rattle.ngc_certificate_text.specs.declared.piece.Setting.{Setting}
use Rattle.ngc_certificate_text.specs.declared.piece.Setting.TheVariants.{Off, On}
use Rattle.ngc_checker.specs.CheckView.{job_verdict}
use Rattle.ngc_command_line.specs.declared.options.Format.{Format}
use Rattle.ngc_dialect_execution.specs.Faults.{FailsBy}
use Rattle.ngc_dialect_execution.specs.Program.{meaning_in}
use Rattle.ngc_dialect_execution.specs.declared.fault.Cause.{Cause}
use Rattle.ngc_dialect_execution.specs.declared.fault.DialectFault.TheVariants.{At}
use Rattle.ngc_dialect_faults.specs.Lines.{fault_line}
use Rattle.ngc_dialect_job.specs.Job.{IsDialectJob}
use Rattle.ngc_dialect_names.specs.declared.dialect.Dialect.{Dialect}
use Rattle.ngc_dialect_names.specs.Names.{named_dialect}
use Rattle.ngc_inputs.specs.Jobs.{IsFormFor, IsUnmade, accepted_text}
use Rattle.ngc_inputs.specs.Setups.{FileBytes, OnPlaced}
use Rattle.ngc_inputs.specs.Shops.{PlacedResultIs, RefusesPlaced}
use Rattle.ngc_inputs.specs.declared.fault.AnswerFault.{AnswerFault}
use Rattle.ngc_inputs.specs.declared.fault.AnswerFault.TheVariants as answers
use Rattle.ngc_job.specs.Job.{JobData}
use Rattle.ngc_listing.specs.Listing.{listing}
use Rattle.ngc_margins.specs.declared.changes.Changes.{Changes}
use Rattle.ngc_simulator.specs.declared.dialects.DialectFiles.{DialectFiles}
use Rattle.ngc_simulator.specs.declared.dialects.Sent.{Sent}
use Rattle.ngc_simulator.specs.declared.done.Done.{Done}
use Rattle.ngc_simulator.specs.declared.done.Done.TheVariants.{Quietly, RunThrough, WithNotes}
use Rattle.ngc_simulator.specs.declared.done.Notes.{Notes}

-- ---- the files

-- P of the dialect that a control has, of the machine with its tools, and of the program's text
abbrev pub OnDialect : List ℕ → FileBytes → Option (List ℕ) → Option (List ℕ) → Changes →
    Option (List ℕ) → (Dialect → Setup → List ℕ → Type 0) → Type 0
OnDialect control bytes machine tools changes program P =
    IfSome (named_dialect control) (λ d. OnPlaced bytes machine tools changes (λ setup.
    IfSome (bytes program) (λ source. P d setup source)))

-- the control isn't known, or a machine file or a tool table is refused, or a file isn't read
abbrev pub StopsDialect : List ℕ → FileBytes → Option (List ℕ) → Option (List ℕ) → Changes →
    AnswerFault → Type 0
StopsDialect control bytes machine tools changes answers.UnknownControl =
    named_dialect control ≡ None
StopsDialect control bytes machine tools changes fault =
    RefusesPlaced bytes machine tools changes fault

-- what was read is of this control and of these files
pub record IsRead (control : List ℕ) (machine tools : Option (List ℕ)) (changes : Changes)
    (program : Option (List ℕ)) (bytes : FileBytes) (sent : Sent) : Type 0 where
  pub known : named_dialect control ≡ Some sent.dialect
  pub placed : PlacedResultIs bytes machine tools changes (Ok sent.shop)
  pub text : IfSome (bytes program) (λ b. sent.text.items ≡ b)

-- what was read is what the names are of
pub record IsSent (names : DialectFiles) (bytes : FileBytes) (sent : Sent) : Type 0 where
  pub read : IsRead names.control.now (option_map (λ n. n.now) names.machine)
      (option_map (λ n. n.now) names.tools) names.changes (option_map (λ n. n.now) names.program)
      bytes sent

-- why nothing was read by the names
abbrev pub StopsSending : DialectFiles → FileBytes → AnswerFault → Type 0
StopsSending names bytes fault =
    StopsDialect names.control.now bytes (option_map (λ n. n.now) names.machine)
    (option_map (λ n. n.now) names.tools) names.changes fault

-- ---- a program that is refused

-- The first fault of a program at a setting of block delete is the one that the notes report, by its
-- line. Nothing is stated of the program if the space for names ran out.
pub record NotesFault (d : Dialect) (setup : Setup) (block_delete : Bool) (source : List ℕ)
    (setting : Option Setting) (notes : Notes) : Type 0 where
  pub line : ℕ
  pub cause : Cause
  pub refuses : FailsBy (At line cause) (meaning_in d setup block_delete source)
  pub reports : notes.text.items ≡ fault_line setting line cause
  pub unwritten : notes.is_written ≡ false

-- ---- listing

-- the listing of the commands of a program's text
pub record IsDialectListing (d : Dialect) (setup : Setup) (block_delete : Bool) (source text : List ℕ)
    : Type 0 where
  pub commands : List Command
  pub means : meaning_in d setup block_delete source ≡ Ok commands
  pub lists : text ≡ listing setup.machine.step commands

-- From what the sink had taken to what it has taken now: the listing was written, or a prefix of it if
-- the sink failed; a refused program leaves the output unchanged, and notes say why.
abbrev pub ListsDialect : Dialect → Setup → Bool → List ℕ → Option (List ℕ) → Option (List ℕ) →
    Result Done AnswerFault → Type 0
ListsDialect d setup block_delete source old new (Ok Quietly) =
    (text : List ℕ) × IsDialectListing d setup block_delete source text × Appends old new text
ListsDialect d setup block_delete source old new (Ok (RunThrough time)) = ⊥
ListsDialect d setup block_delete source old new (Ok (WithNotes notes)) =
    NotesFault d setup block_delete source None notes × Keeps old new
ListsDialect d setup block_delete source old new (Err answers.Memory) = Keeps old new
ListsDialect d setup block_delete source old new (Err (answers.Write fault)) =
    (text : List ℕ) × IsDialectListing d setup block_delete source text × AppendsPrefix old new text
ListsDialect d setup block_delete source old new (Err _) = ⊥

-- ---- certificates

abbrev pub is_on : Setting → Bool
is_on Off = false
is_on On = true

-- nothing is refused with block delete off, where a refusal is with it on
abbrev pub PassesBefore : Setting → Dialect → Setup → List ℕ → Type 0
PassesBefore Off d setup source = Unit {0}
PassesBefore On d setup source =
    (off : List Command) × (meaning_in d setup false source ≡ Ok off)

-- a program is refused at the first setting of block delete at which it is, and notes say why
pub record NotesRefusal (d : Dialect) (setup : Setup) (source : List ℕ) (notes : Notes) : Type 0
  where
    pub setting : Setting
    pub first : PassesBefore setting d setup source
    pub says : NotesFault d setup (is_on setting) source (Some setting) notes

-- From what the sink had taken to what it has taken now: the text of the certificate that is made for
-- a job was written, or a prefix of it if the sink failed; where none is made, the output is
-- unchanged.
abbrev pub CertifiesJob : JobData → ℕ → Format → Option (List ℕ) → Option (List ℕ) →
    Result (Unit {0}) AnswerFault → Type 0
CertifiesJob j cuts format old new (Ok u) =
    (f : Form) × IsFormFor j cuts format f × Appends old new (spelling f)
CertifiesJob j cuts format old new (Err (answers.Make fault)) = IsUnmade j cuts fault × Keeps old new
CertifiesJob j cuts format old new (Err (answers.Write fault)) =
    (f : Form) × IsFormFor j cuts format f × AppendsPrefix old new (spelling f)
CertifiesJob j cuts format old new (Err _) = ⊥

-- `accepted` was written where nothing of a certificate for a job is refused, or a prefix of it if the
-- sink failed; otherwise the first refusal is returned, and the output is unchanged.
abbrev pub ChecksJob : JobData → List ℕ → Option (List ℕ) → Option (List ℕ) →
    Result (Unit {0}) AnswerFault → Type 0
ChecksJob j text old new (Ok u) = (job_verdict j text ≡ Ok None) × Appends old new accepted_text
ChecksJob j text old new (Err (answers.Certificate fault)) =
    FaultIs fault (job_verdict j text) × Keeps old new
ChecksJob j text old new (Err (answers.Check fault)) =
    (job_verdict j text ≡ Ok (Some fault)) × Keeps old new
ChecksJob j text old new (Err (answers.Write fault)) =
    (job_verdict j text ≡ Ok None) × AppendsPrefix old new accepted_text
ChecksJob j text old new (Err _) = ⊥

-- Does of the job of a program's text, whose program isn't refused; a refused program leaves the
-- output unchanged, and notes say why. Lack of memory shows nothing.
abbrev pub OnDialectJob : Dialect → Setup → List ℕ → Option (List ℕ) → Option (List ℕ) →
    (JobData → Result (Unit {0}) AnswerFault → Type 0) → Result Done AnswerFault → Type 0
OnDialectJob d setup source old new Does (Ok Quietly) =
    (j : JobData) × IsDialectJob d source setup j × Does j (Ok tt)
OnDialectJob d setup source old new Does (Ok (RunThrough time)) = ⊥
OnDialectJob d setup source old new Does (Ok (WithNotes notes)) =
    NotesRefusal d setup source notes × Keeps old new
OnDialectJob d setup source old new Does (Err answers.Memory) = Keeps old new
OnDialectJob d setup source old new Does (Err fault) =
    (j : JobData) × IsDialectJob d source setup j × Does j (Err fault)

abbrev pub CertifiesDialect : Dialect → Setup → List ℕ → ℕ → Format → Option (List ℕ) →
    Option (List ℕ) → Result Done AnswerFault → Type 0
CertifiesDialect d setup source cuts format old new outcome =
    OnDialectJob d setup source old new (λ j. CertifiesJob j cuts format old new) outcome

-- by the bytes of the certificate, where they are known
abbrev pub ChecksDialect : Dialect → Setup → List ℕ → Option (List ℕ) → Option (List ℕ) →
    Option (List ℕ) → Result Done AnswerFault → Type 0
ChecksDialect d setup source certificate old new outcome =
    OnDialectJob d setup source old new
    (λ j o. IfSome certificate (λ text. ChecksJob j text old new o)) outcome
