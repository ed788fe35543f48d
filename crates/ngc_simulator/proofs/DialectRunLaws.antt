-- The result of running a program for another control, from the results of its parts.
use Rattle.std.proofs.Common.{◌≡◌, ℕ, List, Option, Some, None, Bool, true, false, Result, Ok, Err, IfSome, inl, inr, subst, sym, refl, ◌∙◌}
use Rattle.std.specs.Prelude.{IsOk, MatchBool, option_map}
use Rattle.ngc_canonical.specs.Interpreter.{setup_of}
use Rattle.ngc_canonical.specs.State.{Setup}
use Rattle.ngc_dialect_job.specs.Job.{IsDialectJob}
use Rattle.ngc_program_report.specs.declared.run_time.RunTime.{RunTime}
use Rattle.ngc_certificate_text.specs.Ahead.{made_with}
use Rattle.ngc_certificate_text.specs.Certificate.{CertificateData}
use Rattle.ngc_certificate_text.specs.ParsedPart.{parsed_certificate}
use Rattle.ngc_certificate_text.specs.declared.fault.CertificateFault.{CertificateFault}
use Rattle.ngc_checker.specs.FirstRefusal.{job_refusal}
use Rattle.ngc_checker.specs.Accepted.{AcceptedData, commands_at}
use Rattle.ngc_checker.specs.Held.{accepted_of}
use Rattle.ngc_checker.specs.declared.fault.CheckFault.{CheckFault}
use Rattle.ngc_events.specs.Events.{parsed_events}
use Rattle.ngc_events.specs.Given.{EventsResultIs}
use Rattle.ngc_events.specs.declared.event.EventLine.{EventLine}
use Rattle.ngc_events.specs.declared.fault.EventsFault.{EventsFault}
use Rattle.ngc_inputs.specs.Faults.{of_live, of_run}
use Rattle.ngc_inputs.specs.Judging.{Verdict}
use Rattle.ngc_inputs.specs.declared.fault.AnswerFault.{AnswerFault}
use Rattle.ngc_inputs.specs.declared.fault.AnswerFault.TheVariants as answers
use Rattle.ngc_inputs.specs.Setups.{FileBytes}
use Rattle.ngc_inputs.proofs.JobLaws.{if_known, keeps_same}
use Rattle.ngc_inputs.proofs.SetupLaws.{of_file}
use Rattle.ngc_job.specs.Job.{JobData, commands_in}
use Rattle.ngc_machine_model.specs.State.{Job}
use Rattle.ngc_machine_model.specs.Headline.{job_of}
use Rattle.ngc_run_log.specs.declared.live_fault.LiveFault.{LiveFault}
use Rattle.ngc_run_log.specs.declared.live_fault.LiveFault.TheVariants as live
use Rattle.ngc_run_log.specs.Living.{LiveData, LivesOn, LivesToRest}
use Rattle.ngc_run_through.specs.declared.report.Report.{Report}
use Rattle.ngc_run_through.specs.declared.report.RunFault.{RunFault}
use Rattle.ngc_run_through.specs.declared.report.RunFault.TheVariants as runs
use Rattle.ngc_simulator.specs.Dialects.{IsSent, NotesRefusal, OnDialect}
use Rattle.ngc_simulator.specs.declared.dialects.DialectFiles.{DialectFiles}
use Rattle.ngc_simulator.specs.declared.dialects.Sent.{Sent}
use Rattle.ngc_simulator.specs.DialectRuns.{IsJobVerdict, JudgesJob, LivesDialect, LivesJob, LivesJobAt, RunsDialect, RunsDialectThrough, RunsJob, RunsJobOver, RunsJobThrough, RunsJobWhole}
use Rattle.ngc_simulator.specs.Running.{IsTimeOf, RecordsRun, RecordsThrough}
use Rattle.ngc_simulator.specs.declared.done.Done.{Done}
use Rattle.ngc_simulator.specs.declared.done.Done.TheVariants.{Quietly, RunThrough, WithNotes}
use Rattle.ngc_simulator.specs.declared.done.Notes.{Notes}
use Rattle.ngc_simulator.specs.declared.live_request.LiveRequest.{LiveRequest}
use Rattle.ngc_simulator.specs.declared.writing.Writing.{Writing}
use Rattle.ngc_simulator.proofs.DialectLaws.{on_dialect}
use Rattle.ngc_simulator.proofs.RunLaws.{no_events, on_two_files}

-- ---- the verdict

accepts_job : (j : JobData) (text : List ℕ) (verdict : Verdict) (a : AcceptedData) → IsJobVerdict j text verdict → verdict ≡ Ok a → IsJobVerdict j text (Ok a)
accepts_job j text verdict a is accepts = subst (λ (v : Verdict). IsJobVerdict j text v) accepts is

refuses_job : (j : JobData) (text : List ℕ) (verdict : Verdict) (fault : CheckFault) → IsJobVerdict j text verdict → verdict ≡ Err fault
    → IsJobVerdict j text (Err fault)
refuses_job j text verdict fault is refuses = subst (λ (v : Verdict). IsJobVerdict j text v) refuses is

-- an accepted job has the job's commands
same_job : (block_delete : Bool) (j : JobData)
    → job_of (accepted_of j).machine (commands_at block_delete (accepted_of j)) ≡ job_of j.machine (commands_in block_delete j)
same_job false j = refl
same_job true j = refl

accepted_job : (block_delete : Bool) (j : JobData) (a : AcceptedData) → a ≡ accepted_of j
    → job_of a.machine (commands_at block_delete a) ≡ job_of j.machine (commands_in block_delete j)
accepted_job block_delete j a is =
    subst (λ (x : AcceptedData). job_of x.machine (commands_at block_delete x) ≡ job_of j.machine (commands_in block_delete j)) (sym is)
    (same_job block_delete j)

-- ---- to the end

pub job_through_refused : (writing : Writing) (j : JobData) (text : List ℕ) (block_delete : Bool) (known : Option (List ℕ)) (verdict : Verdict)
    (fault : CheckFault) → IsJobVerdict j text verdict → verdict ≡ Err fault
    → RunsJobThrough writing j text block_delete known known (Err (answers.Check fault))
job_through_refused writing j text block_delete known verdict fault is refuses = (refuses_job j text verdict fault is refuses, keeps_same known)

pub job_went_through : (writing : Writing) (j : JobData) (text : List ℕ) (block_delete : Bool) (old new : Option (List ℕ)) (verdict : Verdict)
    (a : AcceptedData) (result : Result Report RunFault) → IsJobVerdict j text verdict → verdict ≡ Ok a
    → RecordsThrough writing (job_of a.machine (commands_at block_delete a)) old new result → RunsJobWhole writing j text block_delete old new result
job_went_through writing j text block_delete old new verdict a result is accepts goes =
    let accepted : IsJobVerdict j text (Ok a) = accepts_job j text verdict a is accepts in
    record {
      accepted = accepted.0;
      runs_to_end = subst (λ (job : Job). RecordsThrough writing job old new result) (accepted_job block_delete j a accepted.1) goes;
    }

pub job_through_failed : (writing : Writing) (j : JobData) (text : List ℕ) (block_delete : Bool) (old new : Option (List ℕ)) (fault : RunFault)
    → RunsJobWhole writing j text block_delete old new (Err fault) → RunsJobThrough writing j text block_delete old new (Err (of_run fault))
job_through_failed writing j text block_delete old new runs.Memory ran = ran
job_through_failed writing j text block_delete old new (runs.Write e) ran = ran

-- ---- over events

pub job_events_refused : (A : Type 0) (writing : Writing) (j : JobData) (text events : List ℕ) (block_delete : Bool) (known : Option (List ℕ))
    (fault : EventsFault) → EventsResultIs {A = A} (Err fault) (parsed_events events)
    → RunsJob writing j text events block_delete known known (Err (answers.Events fault))
job_events_refused A writing j text events block_delete known fault says = (no_events A events fault says, keeps_same known)

pub job_run_refused : (writing : Writing) (j : JobData) (text events : List ℕ) (block_delete : Bool) (known : Option (List ℕ))
    (lines : List EventLine) (verdict : Verdict) (fault : CheckFault) → IsJobVerdict j text verdict → verdict ≡ Err fault
    → parsed_events events ≡ Ok lines → RunsJob writing j text events block_delete known known (Err (answers.Check fault))
job_run_refused writing j text events block_delete known lines verdict fault is refuses are_lines =
    (record { lines = lines; are_lines = are_lines; first = refuses_job j text verdict fault is refuses }, keeps_same known)

pub job_ran_over : (writing : Writing) (j : JobData) (text events : List ℕ) (block_delete : Bool) (old new : Option (List ℕ))
    (lines given_lines : List EventLine) (verdict : Verdict) (a : AcceptedData) (result : Result Report RunFault)
    → IsJobVerdict j text verdict → verdict ≡ Ok a → parsed_events events ≡ Ok lines
    → given_lines ≡ lines → RecordsRun writing (job_of a.machine (commands_at block_delete a)) given_lines old new result
    → RunsJobOver writing j text events block_delete old new result
job_ran_over writing j text events block_delete old new lines given_lines verdict a result is accepts are_lines same comes =
    let accepted : IsJobVerdict j text (Ok a) = accepts_job j text verdict a is accepts in
    record {
      accepted = accepted.0;
      lines = lines;
      are_lines = are_lines;
      comes = subst (λ (job : Job). RecordsRun writing job lines old new result) (accepted_job block_delete j a accepted.1)
          (subst (λ (ls : List EventLine). RecordsRun writing (job_of a.machine (commands_at block_delete a)) ls old new result) same comes);
    }

pub job_run_failed : (writing : Writing) (j : JobData) (text events : List ℕ) (block_delete : Bool) (old new : Option (List ℕ)) (fault : RunFault)
    → RunsJobOver writing j text events block_delete old new (Err fault) → RunsJob writing j text events block_delete old new (Err (of_run fault))
job_run_failed writing j text events block_delete old new runs.Memory ran = ran
job_run_failed writing j text events block_delete old new (runs.Write e) ran = ran

-- ---- live

pub live_job_refused : (request : LiveRequest) (j : JobData) (text : List ℕ) (block_delete : Bool) (source rest known : Option (List ℕ))
    (verdict : Verdict) (fault : CheckFault) → IsJobVerdict j text verdict → verdict ≡ Err fault
    → LivesJob request j text block_delete source rest known known (Err (answers.Check fault))
live_job_refused request j text block_delete source rest known verdict fault is refuses = (refuses_job j text verdict fault is refuses, keeps_same known)

pub live_job_unmade : (request : LiveRequest) (j : JobData) (text : List ℕ) (block_delete : Bool) (source rest known : Option (List ℕ))
    (verdict : Verdict) (a : AcceptedData) (fault : RunFault) → IsJobVerdict j text verdict → verdict ≡ Ok a → fault ≡ runs.Memory
    → LivesJob request j text block_delete source rest known known (Err (of_run fault))
live_job_unmade request j text block_delete source rest known verdict a fault is accepts memory =
    subst (λ (f : RunFault). LivesJob request j text block_delete source rest known known (Err (of_run f))) (sym memory)
    ((accepts_job j text verdict a is accepts).0, keeps_same known)

pub job_lived : (request : LiveRequest) (j : JobData) (text : List ℕ) (block_delete : Bool) (source rest old new : Option (List ℕ))
    (verdict : Verdict) (a : AcceptedData) (live : LiveData) (result : Result (Unit {0}) LiveFault)
    → IsJobVerdict j text verdict → verdict ≡ Ok a → live.job ≡ job_of a.machine (commands_at block_delete a) → live.feeds ≡ request.feeds_ring
    → MatchBool request.aborts (LivesOn request.form live source rest old new result) (LivesToRest request.form live source rest old new result)
    → LivesJobAt request j text block_delete source rest old new result
job_lived request j text block_delete source rest old new verdict a live result is accepts job fed lives =
    let accepted : IsJobVerdict j text (Ok a) = accepts_job j text verdict a is accepts in
    record {
      accepted = accepted.0;
      live = live;
      is_job = job ∙ accepted_job block_delete j a accepted.1;
      is_fed = fed;
      lives = lives;
    }

pub live_job_failed : (request : LiveRequest) (j : JobData) (text : List ℕ) (block_delete : Bool) (source rest old new : Option (List ℕ))
    (fault : LiveFault) → LivesJobAt request j text block_delete source rest old new (Err fault)
    → LivesJob request j text block_delete source rest old new (Err (of_live fault))
live_job_failed request j text block_delete source rest old new (live.Events e) lives = lives
live_job_failed request j text block_delete source rest old new live.Read lives = lives
live_job_failed request j text block_delete source rest old new (live.Write e) lives = lives

-- a source with the bytes of standard input
pub job_from_input : (request : LiveRequest) (j : JobData) (text : List ℕ) (block_delete : Bool) (source input rest old new : Option (List ℕ))
    (outcome : Result (Unit {0}) AnswerFault) → source ≡ input → LivesJob request j text block_delete source rest old new outcome
    → (r : Option (List ℕ)) × LivesJob request j text block_delete input r old new outcome
job_from_input request j text block_delete source input rest old new outcome same lives =
    (rest, subst (λ (k : Option (List ℕ)). LivesJob request j text block_delete k rest old new outcome) same lives)

-- ---- of the files

-- of the bytes that were read, and so of those of the file
pub over_events : (writing : Writing) (j : JobData) (text events slice items : List ℕ) (block_delete : Bool) (old new : Option (List ℕ))
    (outcome : Result Report AnswerFault) → slice ≡ items → items ≡ events → RunsJob writing j text slice block_delete old new outcome
    → RunsJob writing j text events block_delete old new outcome
over_events writing j text events slice items block_delete old new outcome same read runs =
    subst (λ (es : List ℕ). RunsJob writing j text es block_delete old new outcome) (same ∙ read) runs

-- the bytes of a certificate and of the events behind it are those from before the files in front of them
-- were read
pub of_both : (known_text text known_events events : Option (List ℕ)) (P Q : List ℕ → Type 0) (S : List ℕ → List ℕ → Type 0)
    → text ≡ known_text → events ≡ known_events → ((a b : List ℕ) → P a → Q b → S a b) → IfSome text P → IfSome events Q
    → IfSome known_text (λ a. IfSome known_events (S a))
of_both known_text text known_events events P Q S same_text same_events on p q =
    on_two_files known_text known_events text events P Q S same_text same_events on p q

-- a certificate for a job was read
pub judged_read : (j : JobData) (verdict : Verdict) (known source : Option (List ℕ)) → source ≡ known → IfSome source (λ text. JudgesJob j text (Ok verdict))
    → IfSome known (λ text. IsOk (parsed_certificate text))
judged_read j verdict known source same judges =
    if_known known _ _ (is_certificate verdict) (of_file known source (λ text. JudgesJob j text (Ok verdict)) same judges)
  where
    parsed : (text : List ℕ) (says : Result CertificateData CertificateFault) (refusal : Option CheckFault) → parsed_certificate text ≡ says
        → made_with (job_refusal j) says ≡ Ok refusal → IsOk says
    parsed text (Ok c) refusal is made = refl
    parsed text (Err e) refusal is made = let bad : Err e ≡ Ok refusal = made in cc

    is_certificate : (verdict : Verdict) (text : List ℕ) → IsJobVerdict j text verdict → IsOk (parsed_certificate text)
    is_certificate (Ok a) text is = parsed text (parsed_certificate text) None refl is.0
    is_certificate (Err fault) text is = parsed text (parsed_certificate text) (Some fault) refl is

-- ---- of what was read

module _ (names : DialectFiles) (bytes : FileBytes) (sent : Sent) (certificate : Option (List ℕ)) (block_delete : Bool) where
  abbrev machine : Option (List ℕ)
  machine = option_map (λ n. n.now) names.machine

  abbrev tools : Option (List ℕ)
  tools = option_map (λ n. n.now) names.tools

  abbrev program : Option (List ℕ)
  program = option_map (λ n. n.now) names.program

  abbrev setup : Setup
  setup = setup_of sent.shop.machine sent.shop.tools

  module _ (writing : Writing) where
    abbrev Through : Option (List ℕ) → Option (List ℕ) → Result Done AnswerFault → Type 0
    Through old new outcome = OnDialect names.control.now bytes machine tools names.changes program
        (λ d s source. RunsDialectThrough writing d s source certificate block_delete old new outcome)

    pub memory_through : (old : Option (List ℕ)) → IsSent names bytes sent → Through old old (Err answers.Memory)
    memory_through old is = on_dialect names bytes sent
        (λ d s source. RunsDialectThrough writing d s source certificate block_delete old old (Err answers.Memory)) is (inl (refl, keeps_same old))

    pub refused_through : (old : Option (List ℕ)) (notes : Notes) → IsSent names bytes sent → NotesRefusal sent.dialect setup sent.text.items notes
        → Through old old (Ok (WithNotes notes))
    refused_through old notes is refused = on_dialect names bytes sent
        (λ d s source. RunsDialectThrough writing d s source certificate block_delete old old (Ok (WithNotes notes))) is (refused, keeps_same old)

    pub failed_through : (old new : Option (List ℕ)) (j : JobData) (fault : AnswerFault) → IsSent names bytes sent
        → IsDialectJob sent.dialect sent.text.items setup j
        → IfSome certificate (λ text. RunsJobThrough writing j text block_delete old new (Err fault)) → Through old new (Err fault)
    failed_through old new j fault is job does = on_dialect names bytes sent
        (λ d s source. RunsDialectThrough writing d s source certificate block_delete old new (Err fault)) is (inr (j, job, does))

    pub done_through : (old new : Option (List ℕ)) (j : JobData) (report : Report) (time : RunTime) → IsSent names bytes sent
        → IsDialectJob sent.dialect sent.text.items setup j
        → IfSome certificate (λ text. RunsJobThrough writing j text block_delete old new (Ok report)) → IsTimeOf setup report time
        → Through old new (Ok (RunThrough time))
    done_through old new j report time is job does timed = on_dialect names bytes sent
        (λ d s source. RunsDialectThrough writing d s source certificate block_delete old new (Ok (RunThrough time))) is (j, job, report, does, timed)

    module _ (events : Option (List ℕ)) where
      abbrev Over : Option (List ℕ) → Option (List ℕ) → Result Done AnswerFault → Type 0
      Over old new outcome = OnDialect names.control.now bytes machine tools names.changes program
          (λ d s source. RunsDialect writing d s source certificate events block_delete old new outcome)

      pub memory_over : (old : Option (List ℕ)) → IsSent names bytes sent → Over old old (Err answers.Memory)
      memory_over old is = on_dialect names bytes sent
          (λ d s source. RunsDialect writing d s source certificate events block_delete old old (Err answers.Memory)) is (inl (refl, keeps_same old))

      pub refused_over : (old : Option (List ℕ)) (notes : Notes) → IsSent names bytes sent → NotesRefusal sent.dialect setup sent.text.items notes
          → Over old old (Ok (WithNotes notes))
      refused_over old notes is refused = on_dialect names bytes sent
          (λ d s source. RunsDialect writing d s source certificate events block_delete old old (Ok (WithNotes notes))) is (refused, keeps_same old)

      pub failed_over : (old new : Option (List ℕ)) (j : JobData) (fault : AnswerFault) → IsSent names bytes sent
          → IsDialectJob sent.dialect sent.text.items setup j
          → IfSome certificate (λ text. IfSome events (λ es. RunsJob writing j text es block_delete old new (Err fault))) → Over old new (Err fault)
      failed_over old new j fault is job does = on_dialect names bytes sent
          (λ d s source. RunsDialect writing d s source certificate events block_delete old new (Err fault)) is (inr (j, job, does))

      pub done_over : (old new : Option (List ℕ)) (j : JobData) (report : Report) → IsSent names bytes sent
          → IsDialectJob sent.dialect sent.text.items setup j
          → IfSome certificate (λ text. IfSome events (λ es. RunsJob writing j text es block_delete old new (Ok report))) → Over old new (Ok Quietly)
      done_over old new j report is job does = on_dialect names bytes sent
          (λ d s source. RunsDialect writing d s source certificate events block_delete old new (Ok Quietly)) is (j, job, report, does)

  module _ (request : LiveRequest) (input : Option (List ℕ)) where
    abbrev Live : Option (List ℕ) → Option (List ℕ) → Result Done AnswerFault → Type 0
    Live old new outcome = OnDialect names.control.now bytes machine tools names.changes program
        (λ d s source. LivesDialect request d s source certificate input block_delete old new outcome)

    pub memory_live : (old : Option (List ℕ)) → IsSent names bytes sent → Live old old (Err answers.Memory)
    memory_live old is = on_dialect names bytes sent
        (λ d s source. LivesDialect request d s source certificate input block_delete old old (Err answers.Memory)) is (inl (refl, keeps_same old))

    pub refused_live : (old : Option (List ℕ)) (notes : Notes) → IsSent names bytes sent → NotesRefusal sent.dialect setup sent.text.items notes
        → Live old old (Ok (WithNotes notes))
    refused_live old notes is refused = on_dialect names bytes sent
        (λ d s source. LivesDialect request d s source certificate input block_delete old old (Ok (WithNotes notes))) is (refused, keeps_same old)

    pub failed_live : (old new : Option (List ℕ)) (j : JobData) (fault : AnswerFault) → IsSent names bytes sent
        → IsDialectJob sent.dialect sent.text.items setup j
        → IfSome certificate (λ text. (rest : Option (List ℕ)) × LivesJob request j text block_delete input rest old new (Err fault))
        → Live old new (Err fault)
    failed_live old new j fault is job does = on_dialect names bytes sent
        (λ d s source. LivesDialect request d s source certificate input block_delete old new (Err fault)) is (inr (j, job, does))

    pub done_live : (old new : Option (List ℕ)) (j : JobData) → IsSent names bytes sent → IsDialectJob sent.dialect sent.text.items setup j
        → IfSome certificate (λ text. (rest : Option (List ℕ)) × LivesJob request j text block_delete input rest old new (Ok tt))
        → Live old new (Ok Quietly)
    done_live old new j is job does = on_dialect names bytes sent
        (λ d s source. LivesDialect request d s source certificate input block_delete old new (Ok Quietly)) is (j, job, does)
