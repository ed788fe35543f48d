-- The result of running a program for another control: over events, to its end, or live. Our own.
use Rattle.std.specs.Prelude.{◌≡◌, ◌⊎◌, ℕ, List, Option, Some, None, Result, Ok, Err, Bool, IfSome}
use Rattle.std.specs.Prelude.{MatchBool}
use Rattle.std.specs.Io.KnownBytes.{IsAtEnd, Keeps}
use Rattle.ngc_canonical.specs.State.{Setup}
use Rattle.ngc_certificate_text.specs.Reader.{FaultIs}
use Rattle.ngc_certificate_text.specs.declared.fault.CertificateFault.{CertificateFault}
use Rattle.ngc_checker.specs.CheckView.{job_verdict}
use Rattle.ngc_checker.specs.Held.{accepted_of}
use Rattle.ngc_checker.specs.declared.fault.CheckFault.{CheckFault}
use Rattle.ngc_dialect_job.specs.Job.{IsDialectJob}
use Rattle.ngc_dialect_names.specs.declared.dialect.Dialect.{Dialect}
use Rattle.ngc_events.specs.Events.{parsed_events}
use Rattle.ngc_events.specs.declared.event.EventLine.{EventLine}
use Rattle.ngc_inputs.specs.Judging.{Verdict}
use Rattle.ngc_inputs.specs.declared.fault.AnswerFault.{AnswerFault}
use Rattle.ngc_inputs.specs.declared.fault.AnswerFault.TheVariants as answers
use Rattle.ngc_job.specs.Job.{JobData, commands_in}
use Rattle.ngc_machine_model.specs.Headline.{job_of}
use Rattle.ngc_run_log.specs.declared.live_fault.LiveFault.{LiveFault}
use Rattle.ngc_run_log.specs.declared.live_fault.LiveFault.TheVariants as live
use Rattle.ngc_run_log.specs.Living.{LiveData, LivesOn, LivesToRest}
use Rattle.ngc_run_through.specs.declared.report.Report.{Report}
use Rattle.ngc_run_through.specs.declared.report.RunFault.{RunFault}
use Rattle.ngc_run_through.specs.declared.report.RunFault.TheVariants as runs
use Rattle.ngc_simulator.specs.Dialects.{NotesRefusal}
use Rattle.ngc_simulator.specs.Running.{AreNoEvents, IsTimeOf, RecordsRun, RecordsThrough}
use Rattle.ngc_simulator.specs.declared.done.Done.{Done}
use Rattle.ngc_simulator.specs.declared.done.Done.TheVariants.{Quietly, RunThrough, WithNotes}
use Rattle.ngc_simulator.specs.declared.live_request.LiveRequest.{LiveRequest}
use Rattle.ngc_simulator.specs.declared.writing.Writing.{Writing}

-- ---- the checker's verdict

-- what the checker says of a job and the text of a certificate: it accepts the job, or this is the
-- first refusal
abbrev pub IsJobVerdict : JobData → List ℕ → Verdict → Type 0
IsJobVerdict j text (Ok a) = (job_verdict j text ≡ Ok None) × (a ≡ accepted_of j)
IsJobVerdict j text (Err fault) = job_verdict j text ≡ Ok (Some fault)

-- the same, or the text isn't a certificate
abbrev pub JudgesJob : JobData → List ℕ → Result Verdict CertificateFault → Type 0
JudgesJob j text (Ok verdict) = IsJobVerdict j text verdict
JudgesJob j text (Err fault) = FaultIs fault (job_verdict j text)

-- ---- runs of a job

-- the run of an accepted job to its end, its output, and its result
pub record RunsJobWhole (writing : Writing) (j : JobData) (text : List ℕ) (block_delete : Bool)
    (old new : Option (List ℕ)) (result : Result Report RunFault) : Type 0 where
  pub accepted : job_verdict j text ≡ Ok None
  pub runs_to_end : RecordsThrough writing (job_of j.machine (commands_in block_delete j)) old new
      result

-- Of a job, the text of a certificate and a sink: the log or the pulses of the run to the end were
-- written, or a prefix if the sink failed; where there is no run, the output is unchanged.
abbrev pub RunsJobThrough : Writing → JobData → List ℕ → Bool → Option (List ℕ) →
    Option (List ℕ) → Result Report AnswerFault → Type 0
RunsJobThrough writing j text block_delete old new (Ok report) =
    RunsJobWhole writing j text block_delete old new (Ok report)
RunsJobThrough writing j text block_delete old new (Err (answers.Certificate fault)) =
    FaultIs fault (job_verdict j text) × Keeps old new
RunsJobThrough writing j text block_delete old new (Err (answers.Check fault)) =
    (job_verdict j text ≡ Ok (Some fault)) × Keeps old new
RunsJobThrough writing j text block_delete old new (Err answers.Memory) =
    RunsJobWhole writing j text block_delete old new (Err runs.Memory)
RunsJobThrough writing j text block_delete old new (Err (answers.Write fault)) =
    RunsJobWhole writing j text block_delete old new (Err (runs.Write fault))
RunsJobThrough writing j text block_delete old new (Err _) = ⊥

-- the run of an accepted job over the events of a text, its output, and its result
pub record RunsJobOver (writing : Writing) (j : JobData) (text events : List ℕ)
    (block_delete : Bool) (old new : Option (List ℕ)) (result : Result Report RunFault) : Type 0
  where
    pub accepted : job_verdict j text ≡ Ok None
    pub lines : List EventLine
    pub are_lines : parsed_events events ≡ Ok lines
    pub comes : RecordsRun writing (job_of j.machine (commands_in block_delete j)) lines old new
        result

-- the first refusal of a certificate for a job, where the events are read
pub record IsRefusedOver (j : JobData) (text events : List ℕ) (fault : CheckFault) : Type 0 where
  pub lines : List EventLine
  pub are_lines : parsed_events events ≡ Ok lines
  pub first : job_verdict j text ≡ Ok (Some fault)

-- the same over the events of a text, which are read before the checker's refusal counts
abbrev pub RunsJob : Writing → JobData → List ℕ → List ℕ → Bool → Option (List ℕ) →
    Option (List ℕ) → Result Report AnswerFault → Type 0
RunsJob writing j text events block_delete old new (Ok report) =
    RunsJobOver writing j text events block_delete old new (Ok report)
RunsJob writing j text events block_delete old new (Err (answers.Certificate fault)) =
    FaultIs fault (job_verdict j text) × Keeps old new
RunsJob writing j text events block_delete old new (Err (answers.Events fault)) =
    AreNoEvents events fault × Keeps old new
RunsJob writing j text events block_delete old new (Err (answers.Check fault)) =
    IsRefusedOver j text events fault × Keeps old new
RunsJob writing j text events block_delete old new (Err answers.Memory) =
    RunsJobOver writing j text events block_delete old new (Err runs.Memory)
RunsJob writing j text events block_delete old new (Err (answers.Write fault)) =
    RunsJobOver writing j text events block_delete old new (Err (runs.Write fault))
RunsJob writing j text events block_delete old new (Err _) = ⊥

-- the run of an accepted job over the events of a source, whose bytes are `source` at the beginning
-- and `rest` now
pub record LivesJobAt (request : LiveRequest) (j : JobData) (text : List ℕ) (block_delete : Bool)
    (source rest old new : Option (List ℕ)) (result : Result (Unit {0}) LiveFault) : Type 0 where
  pub accepted : job_verdict j text ≡ Ok None
  pub live : LiveData
  pub is_job : live.job ≡ job_of j.machine (commands_in block_delete j)
  pub is_fed : live.feeds ≡ request.feeds_ring
  pub lives : MatchBool request.aborts (LivesOn request.form live source rest old new result)
      (LivesToRest request.form live source rest old new result)

-- Of a job, the text of a certificate, a source of events and a sink: the run over the events of all
-- lines that arrived was written, to the end of the source or up to a fault, and then how the machine
-- was stopped; where there is no run, the output is unchanged.
abbrev pub LivesJob : LiveRequest → JobData → List ℕ → Bool → Option (List ℕ) →
    Option (List ℕ) → Option (List ℕ) → Option (List ℕ) → Result (Unit {0}) AnswerFault → Type 0
LivesJob request j text block_delete source rest old new (Ok done) =
    LivesJobAt request j text block_delete source rest old new (Ok done) × IsAtEnd rest
LivesJob request j text block_delete source rest old new (Err (answers.Certificate fault)) =
    FaultIs fault (job_verdict j text) × Keeps old new
LivesJob request j text block_delete source rest old new (Err (answers.Check fault)) =
    (job_verdict j text ≡ Ok (Some fault)) × Keeps old new
LivesJob request j text block_delete source rest old new (Err answers.Memory) =
    (job_verdict j text ≡ Ok None) × Keeps old new
LivesJob request j text block_delete source rest old new (Err (answers.Events fault)) =
    LivesJobAt request j text block_delete source rest old new (Err (live.Events fault))
LivesJob request j text block_delete source rest old new (Err (answers.Input fault)) =
    LivesJobAt request j text block_delete source rest old new (Err live.Read)
LivesJob request j text block_delete source rest old new (Err (answers.Write fault)) =
    LivesJobAt request j text block_delete source rest old new (Err (live.Write fault))
LivesJob request j text block_delete source rest old new (Err _) = ⊥

-- ---- runs of a program

-- lack of memory leaves the output unchanged
abbrev pub LacksMemory : Option (List ℕ) → Option (List ℕ) → AnswerFault → Type 0
LacksMemory old new fault = (fault ≡ answers.Memory) × Keeps old new

-- by the bytes of the certificate, where they are known: the job of a program's text is run to its
-- end, with the run's time; a refused program leaves the output unchanged, and notes say why
abbrev pub RunsDialectThrough : Writing → Dialect → Setup → List ℕ → Option (List ℕ) → Bool →
    Option (List ℕ) → Option (List ℕ) → Result Done AnswerFault → Type 0
RunsDialectThrough writing d setup source certificate block_delete old new (Ok Quietly) = ⊥
RunsDialectThrough writing d setup source certificate block_delete old new (Ok (RunThrough time)) =
    (j : JobData) × IsDialectJob d source setup j × (report : Report) ×
    IfSome certificate (λ text. RunsJobThrough writing j text block_delete old new (Ok report)) ×
    IsTimeOf setup report time
RunsDialectThrough writing d setup source certificate block_delete old new (Ok (WithNotes notes)) =
    NotesRefusal d setup source notes × Keeps old new
RunsDialectThrough writing d setup source certificate block_delete old new (Err fault) =
    LacksMemory old new fault ⊎ ((j : JobData) × IsDialectJob d source setup j ×
    IfSome certificate (λ text. RunsJobThrough writing j text block_delete old new (Err fault)))

-- the same over the events of a text, where its bytes are known, without the run's time
abbrev pub RunsDialect : Writing → Dialect → Setup → List ℕ → Option (List ℕ) → Option (List ℕ) →
    Bool → Option (List ℕ) → Option (List ℕ) → Result Done AnswerFault → Type 0
RunsDialect writing d setup source certificate events block_delete old new (Ok Quietly) =
    (j : JobData) × IsDialectJob d source setup j × (report : Report) ×
    IfSome certificate (λ text. IfSome events
    (λ es. RunsJob writing j text es block_delete old new (Ok report)))
RunsDialect writing d setup source certificate events block_delete old new (Ok (RunThrough time)) = ⊥
RunsDialect writing d setup source certificate events block_delete old new (Ok (WithNotes notes)) =
    NotesRefusal d setup source notes × Keeps old new
RunsDialect writing d setup source certificate events block_delete old new (Err fault) =
    LacksMemory old new fault ⊎ ((j : JobData) × IsDialectJob d source setup j ×
    IfSome certificate (λ text. IfSome events
    (λ es. RunsJob writing j text es block_delete old new (Err fault))))

-- the same over the events of standard input, whose bytes are `input`
abbrev pub LivesDialect : LiveRequest → Dialect → Setup → List ℕ → Option (List ℕ) →
    Option (List ℕ) → Bool → Option (List ℕ) → Option (List ℕ) → Result Done AnswerFault → Type 0
LivesDialect request d setup source certificate input block_delete old new (Ok Quietly) =
    (j : JobData) × IsDialectJob d source setup j × IfSome certificate (λ text.
    (rest : Option (List ℕ)) × LivesJob request j text block_delete input rest old new (Ok tt))
LivesDialect request d setup source certificate input block_delete old new (Ok (RunThrough time)) = ⊥
LivesDialect request d setup source certificate input block_delete old new (Ok (WithNotes notes)) =
    NotesRefusal d setup source notes × Keeps old new
LivesDialect request d setup source certificate input block_delete old new (Err fault) =
    LacksMemory old new fault ⊎ ((j : JobData) × IsDialectJob d source setup j ×
    IfSome certificate (λ text. (rest : Option (List ℕ)) ×
    LivesJob request j text block_delete input rest old new (Err fault)))
