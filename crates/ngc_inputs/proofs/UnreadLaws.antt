-- The file of a run that isn't read, from the reports on each file.
use Rattle.std.proofs.Common.{◌≡◌, ℕ, List, [], ◌∷◌, ◌++◌, Option, Some, None, Result, Ok, Err, IfSome, inl, inr, refl, ap, subst, sym, ◌∙◌}
use Rattle.std.specs.Prelude.{IfErr, IsErrAnd, IsOk, MatchOption}
use Rattle.ngc_certificate_text.specs.declared.fault.CertificateFault.{CertificateFault}
use Rattle.ngc_certificate_text.specs.declared.fault.CertificateFault.TheVariants as texts
use Rattle.ngc_text.specs.Failures.{Rises}
use Rattle.ngc_text.specs.declared.input_fault.InputFault.{InputFault}
use Rattle.ngc_text.specs.declared.input_fault.InputFault.TheVariants as inputs
use Rattle.ngc_line_reader.specs.declared.program.fault.ReadFault.{ReadFault}
use Rattle.ngc_line_reader.specs.declared.program.fault.ReadFault.TheVariants as reads
use Rattle.ngc_machine_files.specs.Machine.{MachineFile, file_of}
use Rattle.ngc_machine_files.specs.declared.fault.FileFault.{FileFault}
use Rattle.ngc_written_machines.specs.Reading.{any_machine}
use Rattle.ngc_written_tools.specs.Reading.{any_tools}
use Rattle.ngc_inputs.specs.Setups.{FileBytes, IfMachine, KeepsFiles}
use Rattle.ngc_inputs.specs.Shops.{PlacedResultIs, ShopResultIs, IsPlaced}
use Rattle.ngc_margins.specs.declared.changes.Changes.{Changes}
use Rattle.ngc_inputs.specs.Faults.{OfCertifying, OfChecking, OfDrawing, OfListing, OfLiving, OfMapping, OfRunning}
use Rattle.ngc_inputs.specs.Unread.{Kind, OfMachine, OfTools, OfProgram, OfCertificate, OfEvents, OfSource, IsReadAs, Input, setup_input, shop_inputs, AtFirst}
use Rattle.ngc_inputs.specs.Unread.{ReportsKindUnread, ReportsFirstUnread, FailsBy, FailsByInput, program_unread, certificate_unread, unread_by}
use Rattle.ngc_inputs.specs.declared.fault.AnswerFault.{AnswerFault}
use Rattle.ngc_inputs.specs.declared.fault.AnswerFault.TheVariants as answers
use Rattle.ngc_inputs.specs.declared.setup.Shop.{Shop}
use Rattle.ngc_report.proofs.Converted.{turned}
use Rattle.ngc_inputs.proofs.JobLaws.{if_known}

-- each of these files is read
abbrev pub AllRead : FileBytes → List Input → Type 0
AllRead bytes [] = Unit {0}
AllRead bytes (input ∷ more) = IfSome (bytes input.name) (IsReadAs input.kind) × AllRead bytes more

-- the report on one file alone, or on the only one of some
abbrev pub ReportsIfUnread : (Option (List ℕ) → Type 0) → FileBytes → List Input → ℕ → ℕ → Option InputFault → Type 0
ReportsIfUnread fails bytes files old new why = MatchOption why (new ≡ old) (ReportsFirstUnread fails bytes files old new)

pub unread_told : {T : Type 0} (fails : Option (List ℕ) → Type 0) (bytes : FileBytes) (files : List Input) (old new : ℕ) (r : Result T AnswerFault)
    (e : AnswerFault)
    → IsErrAnd r (λ a. a ≡ e) → ReportsIfUnread fails bytes files old new (unread_by e) → FailsByInput fails bytes files old new r
unread_told fails bytes files old new r e is told = turned r e (FailsByInput fails bytes files old new) is told

pub first_before : (P : Kind → Option (List ℕ) → Type 0) (bytes : FileBytes) (files more : List Input) → AtFirst P bytes files → AtFirst P bytes (files ++ more)
first_before P bytes [] more first = absurd first
first_before P bytes (input ∷ files) more (inl p) = inl p
first_before P bytes (input ∷ files) more (inr (read, first)) = inr (read, first_before P bytes files more first)

pub first_behind : (P : Kind → Option (List ℕ) → Type 0) (bytes : FileBytes) (files more : List Input) → AllRead bytes files → AtFirst P bytes more →
    AtFirst P bytes (files ++ more)
first_behind P bytes [] more all first = first
first_behind P bytes (input ∷ files) more (read, all) first = inr (read, first_behind P bytes files more all first)

pub all_read : (bytes : FileBytes) (files more : List Input) → AllRead bytes files → AllRead bytes more → AllRead bytes (files ++ more)
all_read bytes [] more all all_more = all_more
all_read bytes (input ∷ files) more (read, all) all_more = (read, all_read bytes files more all all_more)

-- further files follow
pub reported_before : (fails : Option (List ℕ) → Type 0) (bytes : FileBytes) (files more : List Input) (old new : ℕ) (why : Option InputFault)
    → ReportsIfUnread fails bytes files old new why → ReportsIfUnread fails bytes (files ++ more) old new why
reported_before fails bytes files more old new None told = told
reported_before fails bytes files more old new (Some fault) told = first_before (λ kind known. ReportsKindUnread fails kind known old new fault) bytes files more told

-- a file by itself, after files that were read and before others
pub told_behind : (fails : Option (List ℕ) → Type 0) (bytes after : FileBytes) (files : List Input) (kind : Kind) (name : Option (List ℕ)) (more : List Input)
    (old mid new : ℕ) (why : Option InputFault)
    → AllRead bytes files → after name ≡ bytes name → mid ≡ old
    → ReportsIfUnread fails after (record { kind = kind; name = name } ∷ []) mid new why →
    ReportsIfUnread fails bytes (files ++ record { kind = kind; name = name } ∷ more) old new why
told_behind fails bytes after files kind name more old mid new None all same_bytes same told = told ∙ same
told_behind fails bytes after files kind name more old mid new (Some fault) all same_bytes same (inl tells) =
    first_behind (λ k known. ReportsKindUnread fails k known old new fault) bytes files (record { kind = kind; name = name } ∷ more) all
    (inl (subst (λ n. ReportsKindUnread fails kind (bytes name) n new fault) same
    (subst (λ (known : Option (List ℕ)). ReportsKindUnread fails kind known mid new fault) same_bytes tells)))
told_behind fails bytes after files kind name more old mid new (Some fault) all same_bytes same (inr (read, none)) = absurd none

-- a file that couldn't be opened, after files that were read and before others
pub unopened : (fails : Option (List ℕ) → Type 0) (bytes : FileBytes) (files : List Input) (kind : Kind) (name : Option (List ℕ)) (more : List Input)
    (old mid new : ℕ) (e : InputFault)
    → e ≡ inputs.Device → AllRead bytes files → mid ≡ old → Rises mid new →
    ReportsIfUnread fails bytes (files ++ record { kind = kind; name = name } ∷ more) old new (Some e)
unopened fails bytes files kind name more old mid new e is all same rises =
    subst (λ (f : InputFault). ReportsIfUnread fails bytes (files ++ record { kind = kind; name = name } ∷ more) old new (Some f)) (sym is)
    (told_behind fails bytes bytes files kind name more old mid new (Some inputs.Device) all refl same (inl (by_kind kind)))
  where
    by_kind : (kind : Kind) → ReportsKindUnread fails kind (bytes name) mid new inputs.Device
    by_kind OfMachine = inl rises
    by_kind OfTools = inl rises
    by_kind OfProgram = inl rises
    by_kind OfCertificate = inl rises
    by_kind OfEvents = inl rises
    by_kind OfSource = inl rises

-- ---- that a file was read

is_ok_of : {T E : Type 0} (says : Result T E) (value : T) → says ≡ Ok value → IsOk says
is_ok_of says value is = subst IsOk (sym is) refl

-- a file said something
pub is_read : {T E : Type 0} (read : List ℕ → Result T E) (value : T) (known source : Option (List ℕ)) → source ≡ known
    → IfSome source (λ text. read text ≡ Ok value) → IfSome known (λ text. IsOk (read text))
is_read read value known source same said =
    if_known known (λ text. read text ≡ Ok value) (λ text. IsOk (read text)) (λ text is. is_ok_of (read text) value is)
    (subst (λ (k : Option (List ℕ)). IfSome k (λ text. read text ≡ Ok value)) same said)

pub shop_read : (bytes : FileBytes) (machine tools : Option (List ℕ)) (shop : Shop) → ShopResultIs bytes machine tools (Ok shop) →
    AllRead bytes (shop_inputs machine tools)
shop_read bytes None None shop said = tt
shop_read bytes None (Some t) shop said = (is_read any_tools _ (bytes (Some t)) (bytes (Some t)) refl said.1, tt)
shop_read bytes (Some m) None shop said = (is_read any_machine _ (bytes (Some m)) (bytes (Some m)) refl said.0, tt)
shop_read bytes (Some m) (Some t) shop said =
    (is_read any_machine _ (bytes (Some m)) (bytes (Some m)) refl said.0, (is_read any_tools _ (bytes (Some t)) (bytes (Some t)) refl said.1, tt))

-- the same of a machine with changes
pub placed_read : (bytes : FileBytes) (machine tools : Option (List ℕ)) (changes : Changes) (shop : Shop) → PlacedResultIs bytes machine tools changes (Ok shop)
    → AllRead bytes (shop_inputs machine tools)
placed_read bytes machine tools changes shop said = both machine tools said
  where
    unchanged : (says : Result MachineFile FileFault) → IsPlaced changes (file_of shop.machine) says → IsOk says
    unchanged (Ok m) said = refl
    unchanged (Err e) said = let bad : Err e ≡ Ok (file_of shop.machine) = said in cc

    of_machine : (known : Option (List ℕ)) → IfSome known (λ text. IsPlaced changes (file_of shop.machine) (any_machine text)) →
        IfSome known (λ text. IsOk (any_machine text))
    of_machine None said = tt
    of_machine (Some text) said = unchanged (any_machine text) said

    both : (machine tools : Option (List ℕ)) → PlacedResultIs bytes machine tools changes (Ok shop) → AllRead bytes (shop_inputs machine tools)
    both None None said = tt
    both None (Some t) said = (is_read any_tools _ (bytes (Some t)) (bytes (Some t)) refl said.1, tt)
    both (Some m) None said = (of_machine (bytes (Some m)) said.0, tt)
    both (Some m) (Some t) said = (of_machine (bytes (Some m)) said.0, (is_read any_tools _ (bytes (Some t)) (bytes (Some t)) refl said.1, tt))

-- ---- the machine file and the tool table

-- after a machine file that was read
pub tools_told : (fails : Option (List ℕ) → Type 0) (bytes after : FileBytes) (machine tools : Option (List ℕ)) (old mid new : ℕ) (why : Option InputFault)
    → AllRead bytes (setup_input OfMachine machine) → KeepsFiles bytes after → mid ≡ old
    → ReportsIfUnread fails after (setup_input OfTools tools) mid new why → ReportsIfUnread fails bytes (shop_inputs machine tools) old new why
tools_told fails bytes after machine tools old mid new None read keeps same told = told ∙ same
tools_told fails bytes after machine None old mid new (Some e) read keeps same told = absurd told
tools_told fails bytes after machine (Some name) old mid new (Some e) read keeps same told =
    told_behind fails bytes after (setup_input OfMachine machine) OfTools (Some name) [] old mid new (Some e) read (keeps (Some name)) same told

pub machine_read : (bytes : FileBytes) (machine : Option (List ℕ)) (m : MachineFile) → IfMachine bytes machine (λ says. says ≡ Ok m) →
    AllRead bytes (setup_input OfMachine machine)
machine_read bytes None m said = tt
machine_read bytes (Some name) m said = (is_read any_machine m (bytes (Some name)) (bytes (Some name)) refl said, tt)

-- ---- programs and certificates

-- of the source that a program was read from
pub program_failed : (fails : Option (List ℕ) → Type 0) (bytes : FileBytes) (name : Option (List ℕ)) (old new : ℕ) (fault : ReadFault)
    → new ≡ old → (fault ≡ reads.Device → fails (bytes name)) → ReportsIfUnread fails bytes (record { kind = OfProgram; name = name } ∷ []) old new (program_unread fault)
program_failed fails bytes name old new (reads.Line line e) same failed = same
program_failed fails bytes name old new reads.NoEnd same failed = same
program_failed fails bytes name old new reads.TooManyLines same failed = same
program_failed fails bytes name old new reads.Memory same failed = same
program_failed fails bytes name old new reads.Device same failed = inl (inr (same, failed refl))

pub program_tried : {T : Type 0} (fails : Option (List ℕ) → Type 0) (bytes : FileBytes) (name : Option (List ℕ)) (old new : ℕ) (outcome : Result T ReadFault)
    → new ≡ old → (outcome ≡ Err reads.Device → fails (bytes name)) →
    FailsBy program_unread fails bytes (record { kind = OfProgram; name = name } ∷ []) old new outcome
program_tried fails bytes name old new (Ok program) same failed = same
program_tried fails bytes name old new (Err fault) same failed = program_failed fails bytes name old new fault same (λ is. failed (ap Err is))

-- of the source that a certificate was read from
pub certificate_failed : (fails : Option (List ℕ) → Type 0) (bytes : FileBytes) (name : Option (List ℕ)) (old new : ℕ) (fault : CertificateFault)
    → new ≡ old → (fault ≡ texts.ReadFailed → fails (bytes name)) →
    ReportsIfUnread fails bytes (record { kind = OfCertificate; name = name } ∷ []) old new (certificate_unread fault)
certificate_failed fails bytes name old new texts.Memory same failed = same
certificate_failed fails bytes name old new texts.WrongHeader same failed = same
certificate_failed fails bytes name old new (texts.BadLine line) same failed = same
certificate_failed fails bytes name old new (texts.OutOfRange line) same failed = same
certificate_failed fails bytes name old new texts.ReadFailed same failed = inl (inr (same, failed refl))

pub certificate_tried : {T : Type 0} (fails : Option (List ℕ) → Type 0) (bytes : FileBytes) (name : Option (List ℕ)) (old new : ℕ)
    (outcome : Result T CertificateFault)
    → new ≡ old → (outcome ≡ Err texts.ReadFailed → fails (bytes name)) →
    FailsBy certificate_unread fails bytes (record { kind = OfCertificate; name = name } ∷ []) old new outcome
certificate_tried fails bytes name old new (Ok certificate) same failed = same
certificate_tried fails bytes name old new (Err fault) same failed = certificate_failed fails bytes name old new fault same (λ is. failed (ap Err is))

-- ---- the meaning of a command's fault, where its last file was opened after files that were read

pub program_told : (fails : Option (List ℕ) → Type 0) (bytes : FileBytes) (files : List Input) (name : Option (List ℕ)) (old new : ℕ) (e : ReadFault)
    → AllRead bytes files → new ≡ old → (answers.Read e ≡ answers.Read reads.Device → fails (bytes name))
    → ReportsIfUnread fails bytes (files ++ record { kind = OfProgram; name = name } ∷ []) old new (program_unread e)
program_told fails bytes files name old new e all same failed =
    told_behind fails bytes bytes files OfProgram name [] old old new (program_unread e) all refl refl
    (program_failed fails bytes name old new e same (λ is. failed (ap answers.Read is)))

pub list_told : (fails : Option (List ℕ) → Type 0) (bytes : FileBytes) (files : List Input) (name : Option (List ℕ)) (old new : ℕ) (fault : AnswerFault)
    → OfListing fault → AllRead bytes files → new ≡ old → (fault ≡ answers.Read reads.Device → fails (bytes name))
    → ReportsIfUnread fails bytes (files ++ record { kind = OfProgram; name = name } ∷ []) old new (unread_by fault)
list_told fails bytes files name old new (answers.Read e) of all same failed = program_told fails bytes files name old new e all same failed
list_told fails bytes files name old new (answers.Program e) of all same failed = same
list_told fails bytes files name old new (answers.Write e) of all same failed = same
list_told fails bytes files name old new _ of all same failed = absurd of

pub certify_told : (fails : Option (List ℕ) → Type 0) (bytes : FileBytes) (files : List Input) (name : Option (List ℕ)) (old new : ℕ) (fault : AnswerFault)
    → OfCertifying fault → AllRead bytes files → new ≡ old → (fault ≡ answers.Read reads.Device → fails (bytes name))
    → ReportsIfUnread fails bytes (files ++ record { kind = OfProgram; name = name } ∷ []) old new (unread_by fault)
certify_told fails bytes files name old new (answers.Read e) of all same failed = program_told fails bytes files name old new e all same failed
certify_told fails bytes files name old new (answers.Refused setting e) of all same failed = same
certify_told fails bytes files name old new (answers.Make e) of all same failed = same
certify_told fails bytes files name old new (answers.Write e) of all same failed = same
certify_told fails bytes files name old new _ of all same failed = absurd of

-- a program that is opened by its name once more
pub program_again : (fails : Option (List ℕ) → Type 0) (bytes later : FileBytes) (files : List Input) (program : Option (List ℕ)) (name : List ℕ)
    (old mid new : ℕ) (answer : AnswerFault)
    → program ≡ Some name → AllRead bytes files → later (Some name) ≡ bytes (Some name) → mid ≡ old
    → ReportsIfUnread fails later (record { kind = OfProgram; name = Some name } ∷ []) mid new (unread_by answer)
    → ReportsIfUnread fails bytes (files ++ record { kind = OfProgram; name = program } ∷ []) old new (unread_by answer)
program_again fails bytes later files program name old mid new answer named all same_bytes same told =
    subst (λ (p : Option (List ℕ)). ReportsIfUnread fails bytes (files ++ record { kind = OfProgram; name = p } ∷ []) old new (unread_by answer)) (sym named)
    (told_behind fails bytes later files OfProgram (Some name) [] old mid new (unread_by answer) all same_bytes same told)

pub check_told : (fails : Option (List ℕ) → Type 0) (bytes : FileBytes) (files : List Input) (name : Option (List ℕ)) (old new : ℕ) (fault : AnswerFault)
    → OfChecking fault → AllRead bytes files → new ≡ old → (fault ≡ answers.Certificate texts.ReadFailed → fails (bytes name))
    → ReportsIfUnread fails bytes (files ++ record { kind = OfCertificate; name = name } ∷ []) old new (unread_by fault)
check_told fails bytes files name old new (answers.Certificate e) of all same failed =
    told_behind fails bytes bytes files OfCertificate name [] old old new (certificate_unread e) all refl refl
    (certificate_failed fails bytes name old new e same (λ is. failed (ap answers.Certificate is)))
check_told fails bytes files name old new (answers.Check e) of all same failed = same
check_told fails bytes files name old new (answers.Write e) of all same failed = same
check_told fails bytes files name old new _ of all same failed = absurd of

pub run_told : (fails : Option (List ℕ) → Type 0) (bytes : FileBytes) (files : List Input) (old new : ℕ) (fault : AnswerFault)
    → OfRunning fault → new ≡ old → ReportsIfUnread fails bytes files old new (unread_by fault)
run_told fails bytes files old new (answers.Events e) of same = same
run_told fails bytes files old new (answers.Check e) of same = same
run_told fails bytes files old new answers.Memory of same = same
run_told fails bytes files old new (answers.Write e) of same = same
run_told fails bytes files old new _ of same = absurd of

-- the source of events is the last one
pub live_told : (fails : Option (List ℕ) → Type 0) (bytes : FileBytes) (files : List Input) (old new : ℕ) (fault : AnswerFault)
    → OfLiving fault → AllRead bytes files → new ≡ old → (fault ≡ answers.Input inputs.Device → fails (bytes None)) →
    ReportsIfUnread fails bytes (files ++ record { kind = OfSource; name = None } ∷ []) old new (unread_by fault)
live_told fails bytes files old new (answers.Input inputs.Device) of all same failed =
    told_behind fails bytes bytes files OfSource None [] old old new (Some inputs.Device) all refl refl (inl (inr (same, failed refl)))
live_told fails bytes files old new (answers.Events e) of all same failed = same
live_told fails bytes files old new (answers.Check e) of all same failed = same
live_told fails bytes files old new answers.Memory of all same failed = same
live_told fails bytes files old new (answers.Write e) of all same failed = same
live_told fails bytes files old new _ of all same failed = absurd of

pub draw_told : (fails : Option (List ℕ) → Type 0) (bytes : FileBytes) (files : List Input) (old new : ℕ) (fault : AnswerFault)
    → OfDrawing fault → new ≡ old → ReportsIfUnread fails bytes files old new (unread_by fault)
draw_told fails bytes files old new (answers.Program e) of same = same
draw_told fails bytes files old new (answers.Check e) of same = same
draw_told fails bytes files old new answers.Memory of same = same
draw_told fails bytes files old new (answers.Write e) of same = same
draw_told fails bytes files old new _ of same = absurd of

pub map_told : (fails : Option (List ℕ) → Type 0) (bytes : FileBytes) (files : List Input) (old new : ℕ) (fault : AnswerFault)
    → OfMapping fault → new ≡ old → ReportsIfUnread fails bytes files old new (unread_by fault)
map_told fails bytes files old new (answers.Program e) of same = same
map_told fails bytes files old new answers.Memory of same = same
map_told fails bytes files old new answers.NoMap of same = same
map_told fails bytes files old new (answers.Write e) of same = same
map_told fails bytes files old new _ of same = absurd of

-- a fault that concerns no file, where none is opened
pub nothing_read : {T : Type 0} (fails : Option (List ℕ) → Type 0) (bytes : FileBytes) (files : List Input) (count : ℕ) (outcome : Result T AnswerFault)
    → IfErr outcome (λ fault. unread_by fault ≡ None) → FailsByInput fails bytes files count count outcome
nothing_read fails bytes files count (Ok value) is = refl
nothing_read fails bytes files count (Err fault) is =
    subst (λ (why : Option InputFault). MatchOption why (count ≡ count) (ReportsFirstUnread fails bytes files count count)) (sym is) refl
