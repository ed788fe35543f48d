-- The result of certifying a program, from what is written of its plans.
use Rattle.std.proofs.Common.{◌≡◌, ◌∙◌, ℕ, ℤ, List, Option, Some, None, true, false, Ok, Err, refl, ap, ap₂, subst, sym}
use Rattle.std.specs.Prelude.{IfOk, MatchResult, Result, is_some}
use Rattle.std.specs.Io.KnownBytes.{Appends}
use Rattle.ngc_text.specs.Written.{AppendsPrefix}
use Rattle.ngc_text.specs.declared.writing.WriteFault.{WriteFault}
use Rattle.ngc_line_reader.specs.ProgramText.{ProgramText, program_of, HaveReadings}
use Rattle.ngc_canonical.specs.State.{Setup}
use Rattle.ngc_machine_files.specs.Machine.{MachineFile}
use Rattle.ngc_commands.specs.declared.command.Command.{Command}
use Rattle.ngc_certificate_text.specs.Certificate.{Entry, CertificateData}
use Rattle.ngc_certificate_text.specs.Joined.{Item, Parted, Joined, IsJoined}
use Rattle.ngc_certificate_text.specs.JoinedFirst.{joined_first}
use Rattle.ngc_certificate_text.specs.Spelling.{version_2_text, version_1_text}
use Rattle.ngc_certificate.specs.Common.{IsCommonBeginning, IsJoinedOf}
use Rattle.ngc_certificate.specs.Made.{IsMade, MadeResultIs}
use Rattle.ngc_certificate.specs.Valid.{IsValid}
use Rattle.ngc_certificate.specs.declared.fault.MakeFault.{MakeFault}
use Rattle.ngc_certificate.specs.declared.fault.MakeFault.TheVariants.{Memory, NotCleared}
use Rattle.ngc_certificate.specs.declared.plan.Plan.{Plan}
use Rattle.ngc_certificate.specs.Planned.{planned}
use Rattle.ngc_job.specs.Job.{JobData, commands_in, on_or}
use Rattle.ngc_command_line.specs.declared.options.Format.{Format}
use Rattle.ngc_command_line.specs.declared.options.Format.TheVariants.{One, Two}
use Rattle.ngc_inputs.specs.declared.fault.AnswerFault.{AnswerFault}
use Rattle.ngc_inputs.specs.declared.fault.AnswerFault.TheVariants as answers
use Rattle.ngc_inputs.specs.Jobs.{Certifies, IsMadeOf, IsUnmade, IsWrittenAs}
use Rattle.ngc_inputs.proofs.JobLaws.{IsJobFor, form_for_file}
use Rattle.ngc_simulator.specs.Certifying.{WritesForm}

abbrev data_of : List Entry → List Entry → CertificateData
data_of off on = record { off = off; on = on }

-- ---- plans

-- what is known of plans that are made of these commands, each seen as a certificate
abbrev Made : {X : Type 0} → (ℤ → List Command → List Command → X → CertificateData) → ℕ → Result X MakeFault → MachineFile → List Command → List Command → Type 0
Made view cuts r m off on = MadeResultIs (λ p. view m.step off on p) r (IsMade m cuts off on)
    × IfOk r (λ p. IsValid m off (view m.step off on p).off × IsValid m on (view m.step off on p).on)

made_for : {X : Type 0} (view : ℤ → List Command → List Command → X → CertificateData) (j : JobData) (cuts : ℕ) (r : Result X MakeFault) →
    Made view cuts r j.machine j.off (commands_in true j) →
    MatchResult r (λ p. IsMadeOf j cuts (view j.machine.step j.off (commands_in true j) p)) (IsUnmade j cuts)
made_for view j cuts (Ok p) h = record { made = h.0; off_valid = h.1.0; on_valid = h.1.1 }
made_for view j cuts (Err (NotCleared s k)) h = h.0
made_for view j cuts (Err Memory) h = tt

on_is : (off : List Command) (on : Option (List Command)) → is_some on ≡ false → on_or off on ≡ off
on_is off None none = refl
on_is off (Some on) none = cc

-- where no line begins with `/`, the plans of one setting serve both
pub made_alike : {X : Type 0} (view : ℤ → List Command → List Command → X → CertificateData) (j : JobData) (cuts : ℕ) (off : List Command) (m : MachineFile)
    (r : Result X MakeFault) → off ≡ j.off → m ≡ j.machine → is_some j.on ≡ false →
    MadeResultIs (λ p. view m.step off off p) r (IsMade m cuts off off) →
    IfOk r (λ p. IsValid m off (view m.step off off p).off × IsValid m off (view m.step off off p).on) →
    MatchResult r (λ p. IsMadeOf j cuts (view j.machine.step j.off (commands_in true j) p)) (IsUnmade j cuts)
made_alike view j cuts off m r off_is machine_is none made valid =
    let here : Made view cuts r j.machine off off = subst (λ (n : MachineFile). Made view cuts r n off off) machine_is (made, valid) in
    let first : Made view cuts r j.machine j.off j.off = subst (λ (cs : List Command). Made view cuts r j.machine cs cs) off_is here in
    made_for view j cuts r (subst (λ (cs : List Command). Made view cuts r j.machine j.off cs) (sym (on_is j.off j.on none)) first)

-- ---- version 1

pub parted_written : (format : Format) (off on : List Command) (off_entries on_entries own_off own_on : List Entry) (old new : Option (List ℕ)) → format ≡ One →
    off_entries ≡ own_off → on_entries ≡ own_on → Appends old new (version_1_text (data_of off_entries on_entries)) →
    WritesForm (IsWrittenAs format off on (data_of own_off own_on)) old new (Ok tt)
parted_written format off on off_entries on_entries own_off own_on old new is off_are on_are wrote =
    subst (λ (f : Format). WritesForm (IsWrittenAs f off on (data_of own_off own_on)) old new (Ok tt)) (sym is)
    (Parted (data_of own_off own_on), refl, subst (λ (c : CertificateData). Appends old new (version_1_text c)) (ap₂ data_of off_are on_are) wrote)

pub parted_stopped : (format : Format) (off on : List Command) (off_entries on_entries own_off own_on : List Entry) (old new : Option (List ℕ))
    (fault : WriteFault) → format ≡ One →
    off_entries ≡ own_off → on_entries ≡ own_on → AppendsPrefix old new (version_1_text (data_of off_entries on_entries)) →
    WritesForm (IsWrittenAs format off on (data_of own_off own_on)) old new (Err (answers.Write fault))
parted_stopped format off on off_entries on_entries own_off own_on old new fault is off_are on_are wrote =
    subst (λ (f : Format). WritesForm (IsWrittenAs f off on (data_of own_off own_on)) old new (Err (answers.Write fault))) (sym is)
    (Parted (data_of own_off own_on), refl, subst (λ (c : CertificateData). AppendsPrefix old new (version_1_text c)) (ap₂ data_of off_are on_are) wrote)

-- ---- version 2

abbrev joined_of : (off on : List Command) (off_entries on_entries : List Entry) (n : ℕ) → IsCommonBeginning off on (data_of off_entries on_entries) n →
    IsJoined (joined_first n off_entries on_entries) → IsJoinedOf off on (data_of off_entries on_entries) (Joined (joined_first n off_entries on_entries))
joined_of off on off_entries on_entries n common joined = record { common = n; is_common = common; is = refl; entries = joined }

pub joined_written : (off on : List Command) (off_entries on_entries : List Entry) (n : ℕ) (items : List Item) (old new : Option (List ℕ)) →
    IsCommonBeginning off on (data_of off_entries on_entries) n → IsJoined (joined_first n off_entries on_entries) →
    items ≡ joined_first n off_entries on_entries → Appends old new (version_2_text items) →
    WritesForm (IsJoinedOf off on (data_of off_entries on_entries)) old new (Ok tt)
joined_written off on off_entries on_entries n items old new common joined are wrote = (
  Joined (joined_first n off_entries on_entries),
  joined_of off on off_entries on_entries n common joined,
  subst (λ (l : List Item). Appends old new (version_2_text l)) are wrote,
)

pub joined_stopped : (off on : List Command) (off_entries on_entries : List Entry) (n : ℕ) (items : List Item) (old new : Option (List ℕ)) (fault : WriteFault) →
    IsCommonBeginning off on (data_of off_entries on_entries) n → IsJoined (joined_first n off_entries on_entries) →
    items ≡ joined_first n off_entries on_entries → AppendsPrefix old new (version_2_text items) →
    WritesForm (IsJoinedOf off on (data_of off_entries on_entries)) old new (Err (answers.Write fault))
joined_stopped off on off_entries on_entries n items old new fault common joined are wrote = (
  Joined (joined_first n off_entries on_entries),
  joined_of off on off_entries on_entries n common joined,
  subst (λ (l : List Item). AppendsPrefix old new (version_2_text l)) are wrote,
)

-- the same for equal commands and motions
pub joined_as : (format : Format) (off on own_off own_on : List Command) (off_entries on_entries off_own on_own : List Entry) (old new : Option (List ℕ))
    (result : Result (Unit {0}) AnswerFault) → format ≡ Two → off ≡ own_off → on ≡ own_on → off_entries ≡ off_own → on_entries ≡ on_own →
    WritesForm (IsJoinedOf off on (data_of off_entries on_entries)) old new result →
    WritesForm (IsWrittenAs format own_off own_on (data_of off_own on_own)) old new result
joined_as format off on own_off own_on off_entries on_entries off_own on_own old new result is is_off is_on off_are on_are written =
    subst (λ (f : Format). WritesForm (IsWrittenAs f own_off own_on (data_of off_own on_own)) old new result) (sym is)
    (subst (λ (c : CertificateData). WritesForm (IsJoinedOf own_off own_on c) old new result) (ap₂ data_of off_are on_are)
    (subst (λ (l : List Command). WritesForm (IsJoinedOf own_off l (data_of off_entries on_entries)) old new result) is_on
    (subst (λ (l : List Command). WritesForm (IsJoinedOf l on (data_of off_entries on_entries)) old new result) is_off written)))

-- ---- a file

pub plans_written : (setup : Setup) (bytes : List ℕ) (cuts : ℕ) (format : Format) (text : ProgramText) (j : JobData) (c : CertificateData)
    (old new : Option (List ℕ)) (result : Result (Unit {0}) AnswerFault) → program_of bytes ≡ Ok text → HaveReadings text.lines → IsJobFor text setup j →
    IsMadeOf j cuts c → WritesForm (IsWrittenAs format j.off (commands_in true j) c) old new result → Certifies setup bytes cuts format old new result
plans_written setup bytes cuts format text j c old new (Ok u) is_text have is_job made written = (
  written.0,
  form_for_file setup bytes cuts format text j written.0 is_text have is_job (record { certificate = c; made = made; written = written.1 }),
  written.2,
)
plans_written setup bytes cuts format text j c old new (Err (answers.Make Memory)) is_text have is_job made written = (tt, written)
plans_written setup bytes cuts format text j c old new (Err (answers.Write fault)) is_text have is_job made written = (
  written.0,
  form_for_file setup bytes cuts format text j written.0 is_text have is_job (record { certificate = c; made = made; written = written.1 }),
  written.2,
)
plans_written setup bytes cuts format text j c old new (Err _) is_text have is_job made written = absurd written

-- the motions of equal plans, for equal commands and machines
pub same_planned : {A : Type 0} (machine own : MachineFile) (commands own_commands : List Command) (plan own_plan : Plan A) →
    own ≡ machine → own_commands ≡ commands → own_plan ≡ plan → planned own.step own_commands own_plan ≡ planned machine.step commands plan
same_planned {A} machine own commands own_commands plan own_plan m c p =
    ap (λ (x : MachineFile). planned x.step own_commands own_plan) m ∙ ap₂ (λ (x : List Command) (y : Plan A). planned machine.step x y) c p
