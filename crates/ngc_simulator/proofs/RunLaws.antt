-- The result of running a program over events, or to its end, from the results of its parts.
use Rattle.std.proofs.Common.{◌≡◌, ℕ, List, Option, Some, None, Bool, true, false, Result, Ok, Err, IfSome, ap, subst, ◌∙◌}
use Rattle.std.specs.Prelude.{option_map}
use Rattle.ngc_canonical.specs.Interpreter.{setup_of}
use Rattle.ngc_canonical.specs.Meaning.{Program as ProgramLines, meaning}
use Rattle.ngc_canonical.specs.State.{Setup}
use Rattle.ngc_certificate_text.specs.Certificate.{CertificateData}
use Rattle.ngc_certificate_text.specs.Given.{CertificateResultIs}
use Rattle.ngc_certificate_text.specs.ParsedPart.{parsed_certificate}
use Rattle.ngc_certificate_text.specs.declared.certificate.Certificate.{Certificate}
use Rattle.ngc_certificate_text.specs.declared.fault.CertificateFault.{CertificateFault}
use Rattle.ngc_certificate_text.specs.declared.fault.CertificateFault.TheVariants as certificates
use Rattle.ngc_checker.specs.Accepted.{AcceptedData, Answers, Keeps as CheckerKeeps, commands_at}
use Rattle.ngc_checker.specs.declared.fault.CheckFault.{CheckFault}
use Rattle.ngc_command_line.specs.declared.options.RunOptions.{RunOptions}
use Rattle.ngc_command_line.specs.declared.options.RunThroughOptions.{RunThroughOptions}
use Rattle.ngc_events.specs.Events.{parsed_events}
use Rattle.ngc_events.specs.Given.{EventsResultIs}
use Rattle.ngc_events.specs.declared.event.EventLine.{EventLine}
use Rattle.ngc_events.specs.declared.fault.EventsFault.{EventsFault}
use Rattle.ngc_events.specs.declared.fault.EventsFault.TheVariants as texts
use Rattle.ngc_machine_model.specs.Headline.{job_of}
use Rattle.ngc_simulator.specs.declared.writing.Writing.{Writing}
use Rattle.ngc_run_through.specs.declared.report.Report.{Report}
use Rattle.ngc_run_through.specs.declared.report.RunFault.{RunFault}
use Rattle.ngc_run_through.specs.declared.report.RunFault.TheVariants as runs
use Rattle.ngc_inputs.specs.Faults.{of_run}
use Rattle.ngc_simulator.specs.Answers.{IsTimeOn, RunsOn, RunsThroughOn}
use Rattle.ngc_inputs.specs.Jobs.{IsNoCertificate}
use Rattle.ngc_inputs.specs.Judging.{IsVerdict, Verdict}
use Rattle.ngc_simulator.specs.Running.{IsTimeOf, IsAcceptedJob, RunsOver, RunsWhole, AreNoEvents, Runs, RunsThrough, RecordsRun, RecordsThrough}
use Rattle.ngc_inputs.specs.Setups.{FileBytes, KeepsFiles, KeepsNamed}
use Rattle.ngc_inputs.specs.Shops.{PlacedResultIs}
use Rattle.ngc_inputs.specs.declared.fault.AnswerFault.{AnswerFault}
use Rattle.ngc_inputs.specs.declared.fault.AnswerFault.TheVariants as answers
use Rattle.ngc_program_report.specs.declared.run_time.RunTime.{RunTime}
use Rattle.ngc_inputs.specs.declared.setup.Shop.{Shop}
use Rattle.ngc_inputs.proofs.JobLaws.{keeps_same}
use Rattle.ngc_inputs.proofs.SetupLaws.{on_placed}

-- ---- of the verdict on two files, and of events

pub no_events : (A : Type 0) (events : List ℕ) (fault : EventsFault) → EventsResultIs {A = A} (Err fault) (parsed_events events) → AreNoEvents events fault
no_events A events (texts.BadLine line) says = says
no_events A events texts.TooManyLines says = says
no_events A events texts.Memory says = tt

pub events_refused : (A : Type 0) (writing : Writing) (setup : Setup) (bytes text events : List ℕ) (block_delete : Bool) (known : Option (List ℕ))
    (verdict : Verdict) (fault : EventsFault)
    → IsVerdict setup bytes text verdict → EventsResultIs {A = A} (Err fault) (parsed_events events)
    → Runs writing setup bytes text events block_delete known known (Err (answers.Events fault))
events_refused A writing setup bytes text events block_delete known verdict fault is says =
    (((is.program, is.certificate, is.given), no_events A events fault says), keeps_same known)

pub run_refused : (writing : Writing) (setup : Setup) (bytes text events : List ℕ) (block_delete : Bool) (known : Option (List ℕ))
    (lines : List EventLine) (verdict : Verdict) (fault : CheckFault)
    → IsVerdict setup bytes text verdict → verdict ≡ Err fault → parsed_events events ≡ Ok lines
    → Runs writing setup bytes text events block_delete known known (Err (answers.Check fault))
run_refused writing setup bytes text events block_delete known lines verdict fault is refuses are_lines = (
  record {
    lines = lines;
    are_lines = are_lines;
    program = is.program;
    certificate = is.certificate;
    given = is.given;
    first = subst (Answers (λ a. a) is.program setup is.certificate) refuses is.answers;
  },
  keeps_same known,
)

means_at : (program : ProgramLines) (setup : Setup) (block_delete : Bool) (a : AcceptedData) → CheckerKeeps program setup a
    → meaning program setup block_delete ≡ Ok (commands_at block_delete a)
means_at program setup false a keeps = keeps.off
means_at program setup true a keeps = keeps.on

pub accepted_job : (setup : Setup) (bytes text : List ℕ) (block_delete : Bool) (verdict : Verdict) (a : AcceptedData)
    → IsVerdict setup bytes text verdict → verdict ≡ Ok a → IsAcceptedJob setup bytes text block_delete (job_of a.machine (commands_at block_delete a))
accepted_job setup bytes text block_delete verdict a is accepts =
    let checked = subst (Answers (λ x. x) is.program setup is.certificate) accepts is.answers in record {
      program = is.program;
      certificate = is.certificate;
      given = is.given;
      none_refused = checked.0;
      commands = commands_at block_delete a;
      means = means_at is.program setup block_delete a checked.1;
      is_job = ap (λ machine. job_of machine (commands_at block_delete a)) checked.1.machine;
    }

pub ran_over : (writing : Writing) (setup : Setup) (bytes text events : List ℕ) (block_delete : Bool) (old new : Option (List ℕ))
    (lines given_lines : List EventLine) (verdict : Verdict) (a : AcceptedData) (result : Result Report RunFault)
    → IsVerdict setup bytes text verdict → verdict ≡ Ok a → parsed_events events ≡ Ok lines
    → given_lines ≡ lines → RecordsRun writing (job_of a.machine (commands_at block_delete a)) given_lines old new result
    → RunsOver writing setup bytes text events block_delete old new result
ran_over writing setup bytes text events block_delete old new lines given_lines verdict a result is accepts are_lines same comes = record {
  job = job_of a.machine (commands_at block_delete a);
  accepted = accepted_job setup bytes text block_delete verdict a is accepts;
  lines = lines;
  are_lines = are_lines;
  comes = subst (λ ls. RecordsRun writing (job_of a.machine (commands_at block_delete a)) ls old new result) same comes;
}

pub run_failed : (writing : Writing) (setup : Setup) (bytes text events : List ℕ) (block_delete : Bool) (old new : Option (List ℕ)) (fault : RunFault)
    → RunsOver writing setup bytes text events block_delete old new (Err fault) →
    Runs writing setup bytes text events block_delete old new (Err (of_run fault))
run_failed writing setup bytes text events block_delete old new runs.Memory ran = ran
run_failed writing setup bytes text events block_delete old new (runs.Write e) ran = ran

-- of the bytes that were read, and so of those of the file
pub run_over : (writing : Writing) (setup : Setup) (bytes text events slice items : List ℕ) (block_delete : Bool) (old new : Option (List ℕ))
    (outcome : Result Report AnswerFault)
    → slice ≡ items → items ≡ events → Runs writing setup bytes text slice block_delete old new outcome →
    Runs writing setup bytes text events block_delete old new outcome
run_over writing setup bytes text events slice items block_delete old new outcome same read runs =
    subst (λ es. Runs writing setup bytes text es block_delete old new outcome) (same ∙ read) runs

pub no_certificate : (A : Type 0) (view : Certificate A → CertificateData) (text : List ℕ) (fault : CertificateFault) →
    CertificateResultIs view (Err fault) (parsed_certificate text)
    → IsNoCertificate text fault
no_certificate A view text certificates.WrongHeader says = says
no_certificate A view text (certificates.BadLine line) says = says
no_certificate A view text (certificates.OutOfRange line) says = says
no_certificate A view text certificates.Memory says = tt
no_certificate A view text certificates.ReadFailed says = tt

-- ---- of the files that the command line names

-- of three files, where each is opened after the one before it
on_files : (first second third known source events : Option (List ℕ)) (P Q R : List ℕ → Type 0) (S : List ℕ → List ℕ → List ℕ → Type 0)
    → known ≡ first → source ≡ second → events ≡ third → ((a b e : List ℕ) → P a → Q b → R e → S a b e)
    → IfSome known P → IfSome source Q → IfSome events R → IfSome first (λ a. IfSome second (λ b. IfSome third (S a b)))
on_files first second third known source events P Q R S is_first is_second is_third on p q r =
    subst (λ (k : Option (List ℕ)). IfSome k (λ a. IfSome second (λ b. IfSome third (S a b)))) is_first
    (subst (λ (k : Option (List ℕ)). IfSome known (λ a. IfSome k (λ b. IfSome third (S a b)))) is_second
    (subst (λ (k : Option (List ℕ)). IfSome known (λ a. IfSome source (λ b. IfSome k (S a b)))) is_third (on_all known source events p q r)))
  where
    on_last : (events : Option (List ℕ)) (a b : List ℕ) → P a → Q b → IfSome events R → IfSome events (S a b)
    on_last None a b p q r = tt
    on_last (Some e) a b p q r = on a b e p q r

    on_two : (source events : Option (List ℕ)) (a : List ℕ) → P a → IfSome source Q → IfSome events R → IfSome source (λ b. IfSome events (S a b))
    on_two None events a p q r = tt
    on_two (Some b) events a p q r = on_last events a b p q r

    on_all : (known source events : Option (List ℕ)) → IfSome known P → IfSome source Q → IfSome events R →
        IfSome known (λ a. IfSome source (λ b. IfSome events (S a b)))
    on_all None source events p q r = tt
    on_all (Some a) source events p q r = on_two source events a p q r

-- of what was read: the shop, then the program, the certificate and the events
pub ran_files : (bytes after later last : FileBytes) (options : RunOptions) (writing : Writing) (shop : Shop) (old new : Option (List ℕ)) (outcome : Result Report AnswerFault)
    (P Q R : List ℕ → Type 0)
    → PlacedResultIs bytes (Some options.machine.now) (Some options.tools.now) options.changes (Ok shop) → KeepsFiles bytes after → KeepsNamed after later → KeepsFiles later last
    → IfSome (after (option_map (λ n. n.now) options.program)) P → IfSome (later (Some options.certificate.now)) Q → IfSome (last (Some options.events.now)) R
    → ((a b e : List ℕ) → P a → Q b → R e → Runs writing (setup_of shop.machine shop.tools) a b e options.delete old new outcome)
    → RunsOn bytes options writing old new outcome
ran_files bytes after later last options writing shop old new outcome P Q R said keeps named kept p q r on =
    on_placed bytes (Some options.machine.now) (Some options.tools.now) options.changes (setup_of shop.machine shop.tools)
    (λ setup. IfSome (bytes (option_map (λ n. n.now) options.program))
    (λ a. IfSome (bytes (Some options.certificate.now))
    (λ b. IfSome (bytes (Some options.events.now)) (λ e. Runs writing setup a b e options.delete old new outcome))))
    said.0 said.1
    (on_files _ _ _ _ _ _ P Q R (λ a b e. Runs writing (setup_of shop.machine shop.tools) a b e options.delete old new outcome)
    (keeps (option_map (λ n. n.now) options.program))
    (named options.certificate.now ∙ keeps (Some options.certificate.now))
    (kept (Some options.events.now) ∙ named options.events.now ∙ keeps (Some options.events.now)) on p q r)

-- ---- to the end

pub through_refused : (writing : Writing) (setup : Setup) (bytes text : List ℕ) (block_delete : Bool) (known : Option (List ℕ))
    (verdict : Verdict) (fault : CheckFault)
    → IsVerdict setup bytes text verdict → verdict ≡ Err fault
    → RunsThrough writing setup bytes text block_delete known known (Err (answers.Check fault))
through_refused writing setup bytes text block_delete known verdict fault is refuses = (
  record {
    program = is.program;
    certificate = is.certificate;
    given = is.given;
    first = subst (Answers (λ a. a) is.program setup is.certificate) refuses is.answers;
  },
  keeps_same known,
)

pub went_through : (writing : Writing) (setup : Setup) (bytes text : List ℕ) (block_delete : Bool) (old new : Option (List ℕ))
    (verdict : Verdict) (a : AcceptedData) (result : Result Report RunFault)
    → IsVerdict setup bytes text verdict → verdict ≡ Ok a
    → RecordsThrough writing (job_of a.machine (commands_at block_delete a)) old new result
    → RunsWhole writing setup bytes text block_delete old new result
went_through writing setup bytes text block_delete old new verdict a result is accepts goes = record {
  job = job_of a.machine (commands_at block_delete a);
  accepted = accepted_job setup bytes text block_delete verdict a is accepts;
  runs_to_end = goes;
}

pub through_failed : (writing : Writing) (setup : Setup) (bytes text : List ℕ) (block_delete : Bool) (old new : Option (List ℕ)) (fault : RunFault)
    → RunsWhole writing setup bytes text block_delete old new (Err fault) → RunsThrough writing setup bytes text block_delete old new (Err (of_run fault))
through_failed writing setup bytes text block_delete old new runs.Memory ran = ran
through_failed writing setup bytes text block_delete old new (runs.Write e) ran = ran

-- of two files, where each is opened after the one before it
pub on_two_files : (first second known source : Option (List ℕ)) (P Q : List ℕ → Type 0) (S : List ℕ → List ℕ → Type 0)
    → known ≡ first → source ≡ second → ((a b : List ℕ) → P a → Q b → S a b) → IfSome known P → IfSome source Q → IfSome first (λ a. IfSome second (S a))
on_two_files first second known source P Q S is_first is_second on p q =
    subst (λ (k : Option (List ℕ)). IfSome k (λ a. IfSome second (S a))) is_first
    (subst (λ (k : Option (List ℕ)). IfSome known (λ a. IfSome k (S a))) is_second (on_both known source p q))
  where
    on_last : (source : Option (List ℕ)) (a : List ℕ) → P a → IfSome source Q → IfSome source (S a)
    on_last None a p q = tt
    on_last (Some b) a p q = on a b p q

    on_both : (known source : Option (List ℕ)) → IfSome known P → IfSome source Q → IfSome known (λ a. IfSome source (S a))
    on_both None source p q = tt
    on_both (Some a) source p q = on_last source a p q

-- of what was read: the shop, then the program and the certificate
pub went_files : (bytes after later : FileBytes) (options : RunThroughOptions) (writing : Writing) (shop : Shop) (old new : Option (List ℕ)) (outcome : Result Report AnswerFault)
    (P Q : List ℕ → Type 0)
    → PlacedResultIs bytes (Some options.machine.now) (Some options.tools.now) options.changes (Ok shop) → KeepsFiles bytes after → KeepsNamed after later
    → IfSome (after (option_map (λ n. n.now) options.program)) P → IfSome (later (Some options.certificate.now)) Q
    → ((a b : List ℕ) → P a → Q b → RunsThrough writing (setup_of shop.machine shop.tools) a b options.delete old new outcome)
    → RunsThroughOn bytes options writing old new outcome
went_files bytes after later options writing shop old new outcome P Q said keeps named p q on =
    on_placed bytes (Some options.machine.now) (Some options.tools.now) options.changes (setup_of shop.machine shop.tools)
    (λ setup. IfSome (bytes (option_map (λ n. n.now) options.program))
    (λ a. IfSome (bytes (Some options.certificate.now)) (λ b. RunsThrough writing setup a b options.delete old new outcome)))
    said.0 said.1
    (on_two_files _ _ _ _ P Q (λ a b. RunsThrough writing (setup_of shop.machine shop.tools) a b options.delete old new outcome)
    (keeps (option_map (λ n. n.now) options.program))
    (named options.certificate.now ∙ keeps (Some options.certificate.now)) on p q)

-- the time that is reported for it
pub run_timed : (bytes : FileBytes) (options : RunThroughOptions) (shop : Shop) (report : Report) (time : RunTime)
    → PlacedResultIs bytes (Some options.machine.now) (Some options.tools.now) options.changes (Ok shop)
    → time.ticks ≡ report.ticks → time.ticks_per_second ≡ shop.machine.ticks_per_second → IsTimeOn bytes options report time
run_timed bytes options shop report time said ticks per_second =
    on_placed bytes (Some options.machine.now) (Some options.tools.now) options.changes (setup_of shop.machine shop.tools) (λ setup. IsTimeOf setup report time)
    said.0 said.1 (record { ticks = ticks; ticks_per_second = per_second })
