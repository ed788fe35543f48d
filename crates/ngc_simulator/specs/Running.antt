-- The result of running a program over events, or to its end. Our own.
use Rattle.std.specs.Prelude.{◌≡◌, ℕ, List, Option, None, Result, Ok, Err, Bool}
use Rattle.std.specs.Io.KnownBytes.{Keeps}
use Rattle.ngc_line_reader.specs.ProgramText.{program_of}
use Rattle.ngc_line_reader.specs.ProgramView.{FaultIs}
use Rattle.ngc_commands.specs.declared.command.Command.{Command}
use Rattle.ngc_canonical.specs.State.{Setup}
use Rattle.ngc_canonical.specs.Meaning.{Program as ProgramLines, meaning}
use Rattle.ngc_certificate_text.specs.Certificate.{CertificateData}
use Rattle.ngc_checker.specs.declared.fault.CheckFault.{CheckFault}
use Rattle.ngc_checker.specs.Accepted.{IsFirst}
use Rattle.ngc_checker.specs.FirstRefusal.{first_refusal}
use Rattle.ngc_events.specs.Events.{parsed_events}
use Rattle.ngc_events.specs.declared.event.EventLine.{EventLine}
use Rattle.ngc_events.specs.declared.fault.EventsFault.{EventsFault}
use Rattle.ngc_events.specs.declared.fault.EventsFault.TheVariants as texts
use Rattle.ngc_machine_model.specs.State.{Job}
use Rattle.ngc_machine_model.specs.Headline.{job_of}
use Rattle.ngc_run_through.specs.declared.report.Report.{Report}
use Rattle.ngc_run_through.specs.declared.report.RunFault.{RunFault}
use Rattle.ngc_run_through.specs.declared.report.RunFault.TheVariants as runs
use Rattle.ngc_run_through.specs.Forms.{PulsesResult, PulsesRunToEnd, SamplesResult, SamplesRunToEnd}
use Rattle.ngc_run_through.specs.Forms.{TimesResult, TimesRunToEnd}
use Rattle.ngc_run_through.specs.Runs.{ResultsIn}
use Rattle.ngc_run_through.specs.Through.{RunsToEnd}
use Rattle.ngc_inputs.specs.declared.fault.AnswerFault.{AnswerFault}
use Rattle.ngc_inputs.specs.declared.fault.AnswerFault.TheVariants as answers
use Rattle.ngc_simulator.specs.declared.writing.Writing.{Writing}
use Rattle.ngc_simulator.specs.declared.writing.Writing.TheVariants.{Log, Times, Dump, Samples}
use Rattle.ngc_inputs.specs.Jobs.{AreSent, IsNoCertificate}
use Rattle.ngc_program_report.specs.declared.run_time.RunTime.{RunTime}

-- the result of a run over events by its output, and the result of a run to the end
abbrev pub RecordsRun : Writing → Job → List EventLine → Option (List ℕ) → Option (List ℕ) →
    Result Report RunFault → Type 0
RecordsRun Log = ResultsIn
RecordsRun Times = TimesResult
RecordsRun Dump = PulsesResult
RecordsRun (Samples inverted) = SamplesResult inverted

abbrev pub RecordsThrough : Writing → Job → Option (List ℕ) → Option (List ℕ) →
    Result Report RunFault → Type 0
RecordsThrough Log = RunsToEnd
RecordsThrough Times = TimesRunToEnd
RecordsThrough Dump = PulsesRunToEnd
RecordsThrough (Samples inverted) = SamplesRunToEnd inverted

-- The job of a program's file at a setting of block delete: the commands that the program means
-- there. Neither it nor a certificate's file is refused.
pub record IsAcceptedJob (setup : Setup) (bytes text : List ℕ) (block_delete : Bool) (job : Job) :
    Type 0 where
  pub program : ProgramLines
  pub certificate : CertificateData
  pub given : AreSent bytes text program certificate
  pub none_refused : first_refusal program setup certificate ≡ None
  pub commands : List Command
  pub means : meaning program setup block_delete ≡ Ok commands
  pub is_job : job ≡ job_of setup.machine commands

-- the run of an accepted job over the events of a third file, its output, and its result
pub record RunsOver (writing : Writing) (setup : Setup) (bytes text events : List ℕ)
    (block_delete : Bool) (old new : Option (List ℕ)) (result : Result Report RunFault) :
    Type 0 where
  pub job : Job
  pub accepted : IsAcceptedJob setup bytes text block_delete job
  pub lines : List EventLine
  pub are_lines : parsed_events events ≡ Ok lines
  pub comes : RecordsRun writing job lines old new result

-- a program's file and a certificate's file are read
abbrev pub AreRead : List ℕ → List ℕ → Type 0
AreRead bytes text =
    (program : ProgramLines) × (c : CertificateData) × AreSent bytes text program c

-- a text isn't a list of events, apart from lack of memory
abbrev pub AreNoEvents : List ℕ → EventsFault → Type 0
AreNoEvents events (texts.BadLine line) = parsed_events events ≡ Err (texts.BadLine line)
AreNoEvents events texts.TooManyLines = parsed_events events ≡ Err texts.TooManyLines
AreNoEvents events texts.Memory = Unit {0}

-- the first refusal of the two files, where the events are read
pub record IsRefusedRun (setup : Setup) (bytes text events : List ℕ) (fault : CheckFault) :
    Type 0 where
  pub lines : List EventLine
  pub are_lines : parsed_events events ≡ Ok lines
  pub program : ProgramLines
  pub certificate : CertificateData
  pub given : AreSent bytes text program certificate
  pub first : IsFirst fault (first_refusal program setup certificate)

-- the run of an accepted job to its end, its output, and its result
pub record RunsWhole (writing : Writing) (setup : Setup) (bytes text : List ℕ)
    (block_delete : Bool) (old new : Option (List ℕ)) (result : Result Report RunFault) :
    Type 0 where
  pub job : Job
  pub accepted : IsAcceptedJob setup bytes text block_delete job
  pub runs_to_end : RecordsThrough writing job old new result

-- the first refusal of the two files
pub record IsRefusedWhole (setup : Setup) (bytes text : List ℕ) (fault : CheckFault) : Type 0 where
  pub program : ProgramLines
  pub certificate : CertificateData
  pub given : AreSent bytes text program certificate
  pub first : IsFirst fault (first_refusal program setup certificate)

-- Of a program's file, a certificate's file, an events file and a sink: the log or the pulses of
-- the run were written, or a prefix if the sink failed; where there is no run, the output is
-- unchanged.
abbrev pub Runs : Writing → Setup → List ℕ → List ℕ → List ℕ → Bool → Option (List ℕ) →
    Option (List ℕ) → Result Report AnswerFault → Type 0
Runs writing setup bytes text events block_delete old new (Ok report) =
    RunsOver writing setup bytes text events block_delete old new (Ok report)
Runs writing setup bytes text events block_delete old new (Err (answers.Read fault)) =
    FaultIs fault (program_of bytes) × Keeps old new
Runs writing setup bytes text events block_delete old new (Err (answers.Certificate fault)) =
    IsNoCertificate text fault × Keeps old new
Runs writing setup bytes text events block_delete old new (Err (answers.Events fault)) =
    (AreRead bytes text × AreNoEvents events fault) × Keeps old new
Runs writing setup bytes text events block_delete old new (Err (answers.Check fault)) =
    IsRefusedRun setup bytes text events fault × Keeps old new
Runs writing setup bytes text events block_delete old new (Err answers.Memory) =
    RunsOver writing setup bytes text events block_delete old new (Err runs.Memory)
Runs writing setup bytes text events block_delete old new (Err (answers.Write fault)) =
    RunsOver writing setup bytes text events block_delete old new (Err (runs.Write fault))
Runs writing setup bytes text events block_delete old new (Err _) = ⊥

-- Of a program's file, a certificate's file and a sink: the same of a run to the end.
abbrev pub RunsThrough : Writing → Setup → List ℕ → List ℕ → Bool → Option (List ℕ) →
    Option (List ℕ) → Result Report AnswerFault → Type 0
RunsThrough writing setup bytes text block_delete old new (Ok report) =
    RunsWhole writing setup bytes text block_delete old new (Ok report)
RunsThrough writing setup bytes text block_delete old new (Err (answers.Read fault)) =
    FaultIs fault (program_of bytes) × Keeps old new
RunsThrough writing setup bytes text block_delete old new (Err (answers.Certificate fault)) =
    IsNoCertificate text fault × Keeps old new
RunsThrough writing setup bytes text block_delete old new (Err (answers.Check fault)) =
    IsRefusedWhole setup bytes text fault × Keeps old new
RunsThrough writing setup bytes text block_delete old new (Err answers.Memory) =
    RunsWhole writing setup bytes text block_delete old new (Err runs.Memory)
RunsThrough writing setup bytes text block_delete old new (Err (answers.Write fault)) =
    RunsWhole writing setup bytes text block_delete old new (Err (runs.Write fault))
RunsThrough writing setup bytes text block_delete old new (Err _) = ⊥

-- the run's ticks, and the ticks per second of its machine
pub record IsTimeOf (setup : Setup) (report : Report) (time : RunTime) : Type 0 where
  pub ticks : time.ticks ≡ report.ticks
  pub ticks_per_second : time.ticks_per_second ≡ setup.machine.ticks_per_second
