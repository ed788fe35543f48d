-- The result of a command on a program for another control, from the results of its parts.
use Rattle.std.proofs.Common.{◌≡◌, ℕ, List, [], ◌∷◌, Option, Some, None, Bool, true, false, Result, Ok, Err, IfSome, inr, refl, subst, sym}
use Rattle.std.specs.Prelude.{IfErr, option_map}
use Rattle.ngc_canonical.specs.Interpreter.{setup_of}
use Rattle.ngc_certificate_text.specs.Certificate.{CertificateData}
use Rattle.ngc_certificate_text.specs.declared.piece.Setting.{Setting}
use Rattle.ngc_certificate_text.specs.declared.piece.Setting.TheVariants.{Off, On}
use Rattle.ngc_certificate.specs.declared.fault.MakeFault.TheVariants.{Memory}
use Rattle.ngc_command_line.specs.declared.options.Format.{Format}
use Rattle.ngc_dialect_execution.specs.Faults.{FailsBy}
use Rattle.ngc_dialect_execution.specs.Program.{meaning_in}
use Rattle.ngc_dialect_execution.specs.declared.fault.Cause.{Cause}
use Rattle.ngc_dialect_execution.specs.declared.fault.DialectFault.{DialectFault}
use Rattle.ngc_dialect_execution.specs.declared.fault.DialectFault.TheVariants.{At}
use Rattle.ngc_dialect_faults.specs.Lines.{fault_line}
use Rattle.ngc_dialect_job.specs.Job.{IsDialectJob, IsRefusedAt}
use Rattle.ngc_job.specs.Job.{JobData, commands_in}
use Rattle.ngc_inputs.specs.Jobs.{IsMadeOf, IsWrittenAs}
use Rattle.ngc_simulator.specs.Certifying.{WritesForm}
use Rattle.ngc_simulator.specs.declared.done.Notes.{Notes}
use Rattle.ngc_canonical.specs.State.{Setup}
use Rattle.ngc_dialect_names.specs.declared.dialect.Dialect.{Dialect}
use Rattle.ngc_margins.specs.declared.changes.Changes.{Changes}
use Rattle.ngc_inputs.specs.Setups.{FileBytes, OnPlaced}
use Rattle.ngc_inputs.specs.Shops.{RefusesPlaced}
use Rattle.ngc_inputs.specs.Unread.{FailsByInput, Input, IsReadAs, OfSource, shop_inputs, unread_by}
use Rattle.ngc_inputs.specs.declared.fault.AnswerFault.{AnswerFault}
use Rattle.ngc_inputs.specs.declared.fault.AnswerFault.TheVariants as answers
use Rattle.ngc_inputs.proofs.JobLaws.{if_known, keeps_same}
use Rattle.ngc_inputs.proofs.SetupLaws.{on_placed}
use Rattle.ngc_inputs.proofs.UnreadLaws.{AllRead, all_read, placed_read}
use Rattle.ngc_simulator.specs.Answers.{DialectComes, dialect_inputs, source_input}
use Rattle.ngc_simulator.specs.DialectPlaces.{PlacesDialect}
use Rattle.ngc_simulator.specs.Dialects.{IsRead, IsSent, ListsDialect, OnDialect, StopsDialect, NotesRefusal}
use Rattle.ngc_simulator.specs.Dialects.{CertifiesDialect, CertifiesJob, ChecksDialect, OnDialectJob}
use Rattle.ngc_simulator.specs.declared.dialects.DialectFiles.{DialectFiles}
use Rattle.ngc_simulator.specs.declared.dialects.Sent.{Sent}
use Rattle.ngc_simulator.specs.declared.done.Done.{Done}
use Rattle.ngc_simulator.specs.declared.place_request.PlaceRequest.{PlaceRequest}
use Rattle.ngc_simulator.specs.declared.done.Done.TheVariants.{Quietly, WithNotes}
use Rattle.ngc_simulator.proofs.AdaptLaws.{told_none}

-- of a control and its files, from what was read of them
pub on_read : (control : List ℕ) (machine tools : Option (List ℕ)) (changes : Changes) (program : Option (List ℕ)) (bytes : FileBytes) (sent : Sent)
    (P : Dialect → Setup → List ℕ → Type 0) → IsRead control machine tools changes program bytes sent
    → P sent.dialect (setup_of sent.shop.machine sent.shop.tools) sent.text.items → OnDialect control bytes machine tools changes program P
on_read control machine tools changes program bytes sent P is p =
    let setup : Setup = setup_of sent.shop.machine sent.shop.tools in
    subst (λ (known : Option Dialect). IfSome known (λ d. OnPlaced bytes machine tools changes (λ s. IfSome (bytes program) (λ source. P d s source))))
    (sym is.known)
    (on_placed bytes machine tools changes setup (λ s. IfSome (bytes program) (λ source. P sent.dialect s source)) is.placed.0 is.placed.1
    (if_known (bytes program) (λ b. sent.text.items ≡ b) (λ source. P sent.dialect setup source)
    (λ b same. subst (λ (source : List ℕ). P sent.dialect setup source) same p) is.text))

-- of the files that are named
pub on_dialect : (names : DialectFiles) (bytes : FileBytes) (sent : Sent) (P : Dialect → Setup → List ℕ → Type 0) → IsSent names bytes sent
    → P sent.dialect (setup_of sent.shop.machine sent.shop.tools) sent.text.items
    → OnDialect names.control.now bytes (option_map (λ n. n.now) names.machine) (option_map (λ n. n.now) names.tools) names.changes
    (option_map (λ n. n.now) names.program) P
on_dialect names bytes sent P is p =
    on_read names.control.now (option_map (λ n. n.now) names.machine) (option_map (λ n. n.now) names.tools) names.changes
    (option_map (λ n. n.now) names.program) bytes sent P is.read p

-- a command that does its work
pub dialect_comes : (Stops : AnswerFault → Type 0) (Does : Result Done AnswerFault → Type 0) (old new : Option (List ℕ)) (outcome : Result Done AnswerFault) →
    Does outcome → DialectComes Stops Does old new outcome
dialect_comes Stops Does old new (Ok done) does = does
dialect_comes Stops Does old new (Err fault) does = inr does

-- a machine file or a tool table that is refused, or a file that isn't read
pub stops_dialect : (control : List ℕ) (bytes : FileBytes) (machine tools : Option (List ℕ)) (changes : Changes) (fault : AnswerFault) →
    RefusesPlaced bytes machine tools changes fault → StopsDialect control bytes machine tools changes fault
stops_dialect control bytes machine tools changes answers.UnknownControl refuses = absurd refuses
stops_dialect control bytes machine tools changes _ refuses = refuses

-- the files of what was read
pub sent_read : (names : DialectFiles) (bytes : FileBytes) (sent : Sent) → IsSent names bytes sent
    → AllRead bytes (dialect_inputs (option_map (λ n. n.now) names.machine) (option_map (λ n. n.now) names.tools) (option_map (λ n. n.now) names.program))
sent_read names bytes sent is =
    all_read bytes (shop_inputs (option_map (λ n. n.now) names.machine) (option_map (λ n. n.now) names.tools))
    (source_input (option_map (λ n. n.now) names.program) ∷ [])
    (placed_read bytes (option_map (λ n. n.now) names.machine) (option_map (λ n. n.now) names.tools) names.changes sent.shop is.read.placed)
    (any_bytes (bytes (option_map (λ n. n.now) names.program)), tt)
  where
    any_bytes : (known : Option (List ℕ)) → IfSome known (IsReadAs OfSource)
    any_bytes None = tt
    any_bytes (Some text) = tt

-- every file was read
pub all_were_read : {T : Type 0} (fails : Option (List ℕ) → Type 0) (bytes : FileBytes) (files : List Input) (old new : ℕ) (outcome : Result T AnswerFault) →
    new ≡ old → IfErr outcome (λ fault. unread_by fault ≡ None) → FailsByInput fails bytes files old new outcome
all_were_read fails bytes files old new (Ok value) same none = same
all_were_read fails bytes files old new (Err fault) same none = told_none fails bytes files old new (unread_by fault) none same

-- a listing is of files that were read
pub list_read : (d : Dialect) (setup : Setup) (block_delete : Bool) (source : List ℕ) (old new : Option (List ℕ)) (outcome : Result Done AnswerFault) →
    ListsDialect d setup block_delete source old new outcome → IfErr outcome (λ fault. unread_by fault ≡ None)
list_read d setup block_delete source old new (Ok done) lists = tt
list_read d setup block_delete source old new (Err (answers.Input e)) lists = absurd lists
list_read d setup block_delete source old new (Err (answers.Read e)) lists = absurd lists
list_read d setup block_delete source old new (Err (answers.Certificate e)) lists = absurd lists
list_read d setup block_delete source old new (Err _) lists = refl

-- ---- certificates

-- notes on a program that is refused
pub job_refused : (d : Dialect) (setup : Setup) (source : List ℕ) (setting : Setting) (fault : DialectFault) (line : ℕ) (cause : Cause) (notes : Notes)
    → fault ≡ At line cause → IsRefusedAt d source setup setting fault
    → (notes.is_written ≡ false) × (notes.text.items ≡ fault_line (Some setting) line cause) → NotesRefusal d setup source notes
job_refused d setup source Off fault line cause notes is refused told = record {
  setting = Off;
  first = tt;
  says = record {
    line = line;
    cause = cause;
    refuses = subst (λ (f : DialectFault). FailsBy f (meaning_in d setup false source)) is refused;
    reports = told.1;
    unwritten = told.0;
  };
}
job_refused d setup source On fault line cause notes is refused told = record {
  setting = On;
  first = (refused.0, refused.1);
  says = record {
    line = line;
    cause = cause;
    refuses = subst (λ (f : DialectFault). FailsBy f (meaning_in d setup true source)) is refused.2;
    reports = told.1;
    unwritten = told.0;
  };
}

pub job_certified : (j : JobData) (cuts : ℕ) (format : Format) (c : CertificateData) (old new : Option (List ℕ)) (result : Result (Unit {0}) AnswerFault) →
    IsMadeOf j cuts c → WritesForm (IsWrittenAs format j.off (commands_in true j) c) old new result → CertifiesJob j cuts format old new result
job_certified j cuts format c old new (Ok u) made written = (written.0, record { certificate = c; made = made; written = written.1 }, written.2)
job_certified j cuts format c old new (Err (answers.Make Memory)) made written = (tt, written)
job_certified j cuts format c old new (Err (answers.Write fault)) made written =
    (written.0, record { certificate = c; made = made; written = written.1 }, written.2)
job_certified j cuts format c old new (Err _) made written = absurd written

-- a command that fails on a job, but not for lack of memory
pub job_failed : (d : Dialect) (setup : Setup) (source : List ℕ) (old new : Option (List ℕ)) (Does : JobData → Result (Unit {0}) AnswerFault → Type 0)
    (j : JobData) (fault : AnswerFault) → IsDialectJob d source setup j → Does j (Err fault) → (fault ≡ answers.Memory → ⊥)
    → OnDialectJob d setup source old new Does (Err fault)
job_failed d setup source old new Does j answers.Memory job does other = absurd (other refl)
job_failed d setup source old new Does j _ job does other = (j, job, does)

-- making and writing a certificate never lacks memory alone
pub not_memory : (j : JobData) (cuts : ℕ) (format : Format) (old new : Option (List ℕ)) (fault : AnswerFault) → CertifiesJob j cuts format old new (Err fault)
    → fault ≡ answers.Memory → ⊥
not_memory j cuts format old new fault certifies is = subst (λ (e : AnswerFault). CertifiesJob j cuts format old new (Err e)) is certifies

-- a certificate is made of files that were read
pub certify_read : (d : Dialect) (setup : Setup) (source : List ℕ) (cuts : ℕ) (format : Format) (old new : Option (List ℕ)) (outcome : Result Done AnswerFault) →
    CertifiesDialect d setup source cuts format old new outcome → IfErr outcome (λ fault. unread_by fault ≡ None)
certify_read d setup source cuts format old new (Ok done) certifies = tt
certify_read d setup source cuts format old new (Err (answers.Input e)) certifies = absurd certifies.2
certify_read d setup source cuts format old new (Err (answers.Read e)) certifies = absurd certifies.2
certify_read d setup source cuts format old new (Err (answers.Certificate e)) certifies = absurd certifies.2
certify_read d setup source cuts format old new (Err _) certifies = refl

-- where an origin may lie is found for files that were read
pub place_read : (d : Dialect) (setup : Setup) (source : List ℕ) (request : PlaceRequest) (old new : Option (List ℕ)) (outcome : Result Done AnswerFault) →
    PlacesDialect d setup source request old new outcome → IfErr outcome (λ fault. unread_by fault ≡ None)
place_read d setup source request old new (Ok done) places = tt
place_read d setup source request old new (Err (answers.Input e)) places = absurd places.2
place_read d setup source request old new (Err (answers.Read e)) places = absurd places.2
place_read d setup source request old new (Err (answers.Certificate e)) places = absurd places.2
place_read d setup source request old new (Err _) places = refl

-- ---- what a command does on a job

pub job_done : (d : Dialect) (setup : Setup) (source : List ℕ) (old new : Option (List ℕ)) (Does : JobData → Result (Unit {0}) AnswerFault → Type 0)
    (j : JobData) → IsDialectJob d source setup j → Does j (Ok tt) → OnDialectJob d setup source old new Does (Ok Quietly)
job_done d setup source old new Does j job does = (j, job, does)

pub refused_check : (names : DialectFiles) (bytes : FileBytes) (sent : Sent) (certificate old : Option (List ℕ)) (notes : Notes) → IsSent names bytes sent
    → NotesRefusal sent.dialect (setup_of sent.shop.machine sent.shop.tools) sent.text.items notes
    → OnDialect names.control.now bytes (option_map (λ n. n.now) names.machine) (option_map (λ n. n.now) names.tools) names.changes
    (option_map (λ n. n.now) names.program) (λ d setup source. ChecksDialect d setup source certificate old old (Ok (WithNotes notes)))
refused_check names bytes sent certificate old notes is refused =
    on_dialect names bytes sent (λ d setup source. ChecksDialect d setup source certificate old old (Ok (WithNotes notes))) is (refused, keeps_same old)

pub no_memory_check : (names : DialectFiles) (bytes : FileBytes) (sent : Sent) (certificate old : Option (List ℕ)) → IsSent names bytes sent
    → OnDialect names.control.now bytes (option_map (λ n. n.now) names.machine) (option_map (λ n. n.now) names.tools) names.changes
    (option_map (λ n. n.now) names.program) (λ d setup source. ChecksDialect d setup source certificate old old (Err answers.Memory))
no_memory_check names bytes sent certificate old is =
    on_dialect names bytes sent (λ d setup source. ChecksDialect d setup source certificate old old (Err answers.Memory)) is (keeps_same old)
