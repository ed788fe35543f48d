-- The result of a run that is written in one of the forms. Our own.
use Rattle.std.specs.Prelude.{◌≡◌, ℕ, List, ◌++◌, length, Option, None, Ok, Err, Result}
use Rattle.std.specs.Io.KnownBytes.{Appends, Keeps}
use Rattle.ngc_text.specs.Written.{AppendsPrefix}
use Rattle.ngc_events.specs.declared.event.Event.{Event}
use Rattle.ngc_events.specs.declared.event.EventLine.{EventLine}
use Rattle.ngc_machine_model.specs.State.{Job, State, opening}
use Rattle.ngc_machine_model.specs.Step.{Outcome}
use Rattle.ngc_machine_model.specs.Run.{events_of}
use Rattle.ngc_pulses.specs.Samples.{samples}
use Rattle.ngc_pulses.specs.Vcd.{vcd}
use Rattle.ngc_run_through.specs.declared.report.Report.{Report}
use Rattle.ngc_run_through.specs.declared.report.RunFault.{RunFault}
use Rattle.ngc_run_through.specs.declared.report.RunFault.TheVariants.{Memory, Write}
use Rattle.ngc_run_through.specs.declared.trace.Form.{Form}
use Rattle.ngc_run_through.specs.declared.trace.Form.TheVariants.{Log, Times, Pulses, Samples}
use Rattle.ngc_run_through.specs.declared.trace.Trace.{Trace}
use Rattle.ngc_run_through.specs.Counting.{counted_of, motor_pulses}
use Rattle.ngc_run_through.specs.Log.{log}
use Rattle.ngc_run_through.specs.Times.{timed_log}
use Rattle.ngc_run_through.specs.Tracing.{switches_in, whole_text}
use Rattle.ngc_machine_model.specs.Stretch.{last_state}
use Rattle.ngc_run_through.specs.Policy.{next_event}
use Rattle.ngc_run_through.specs.Switching.{switches}
use Rattle.ngc_run_through.specs.Runs.{IsRun, Reports}
use Rattle.ngc_run_through.specs.Through.{IsSmoothRun, ReportsEnd}

-- The log of a run's outcomes, without ticks or with them, or the dump or the samples of its ticks'
-- pulses. Positions and pulses are those of the motors.
abbrev pub text_as : Form → Job → List Event → List Outcome → List State → List ℕ
text_as Log job events outcomes states = log (counted_of job outcomes)
text_as Times job events outcomes states = timed_log 0 (counted_of job outcomes)
text_as Pulses job events outcomes states =
    vcd job.machine.ticks_per_second (motor_pulses job events states)
text_as (Samples inverted) job events outcomes states =
    samples inverted (motor_pulses job events states)
    (switches_in (switches job.commands) outcomes)

-- ---- over lists of events

-- all events were processed, and all text was written
pub record IsWrittenRun (form : Form) (job : Job) (lines : List EventLine)
    (old new : Option (List ℕ)) (report : Report) : Type 0 where
  pub outcomes : List Outcome
  pub run : IsRun job (events_of lines) outcomes
  pub written : Appends old new (text_as form job (events_of lines) outcomes run.states)
  pub reports : Reports job (events_of lines) outcomes report

-- a prefix of the events was processed, and what was written is a prefix of their text
pub record IsUnwrittenRun (form : Form) (job : Job) (lines : List EventLine)
    (old new : Option (List ℕ)) : Type 0 where
  pub given : List Event
  pub left : List Event
  pub are_first : events_of lines ≡ given ++ left
  pub outcomes : List Outcome
  pub run : IsRun job given outcomes
  pub written : AppendsPrefix old new (text_as form job given outcomes run.states)

-- If memory runs out, nothing was written.
abbrev pub ResultsAs : Form → Job → List EventLine → Option (List ℕ) → Option (List ℕ) →
    Result Report RunFault → Type 0
ResultsAs form job lines old new (Ok report) = IsWrittenRun form job lines old new report
ResultsAs form job lines old new (Err (Write fault)) = IsUnwrittenRun form job lines old new
ResultsAs form job lines old new (Err Memory) = Keeps old new

-- ---- through the program

-- Every command is done at the end, the end is reported last, no event comes next, and all text was
-- written.
pub record IsWrittenThrough (form : Form) (job : Job) (old new : Option (List ℕ))
    (report : Report) : Type 0 where
  pub events : List Event
  pub outcomes : List Outcome
  pub smooth : IsSmoothRun job events outcomes
  pub done : (last_state (opening job.machine) smooth.run.states).done ≡ length job.commands
  pub ended : next_event job (last_state (opening job.machine) smooth.run.states) ≡ None
  pub told : ReportsEnd outcomes
  pub written : Appends old new (text_as form job events outcomes smooth.run.states)
  pub reports : Reports job events outcomes report

-- some events of a smooth run were processed, and what was written is a prefix of their text
pub record IsWrittenOff (form : Form) (job : Job) (old new : Option (List ℕ)) : Type 0 where
  pub given : List Event
  pub outcomes : List Outcome
  pub smooth : IsSmoothRun job given outcomes
  pub written : AppendsPrefix old new (text_as form job given outcomes smooth.run.states)

abbrev pub RunsToEndAs : Form → Job → Option (List ℕ) → Option (List ℕ) →
    Result Report RunFault → Type 0
RunsToEndAs form job old new (Ok report) = IsWrittenThrough form job old new report
RunsToEndAs form job old new (Err (Write fault)) = IsWrittenOff form job old new
RunsToEndAs form job old new (Err Memory) = Keeps old new

-- ---- the log with ticks

abbrev pub TimesResult : Job → List EventLine → Option (List ℕ) → Option (List ℕ) →
    Result Report RunFault → Type 0
TimesResult = ResultsAs Times

abbrev pub TimesRunToEnd : Job → Option (List ℕ) → Option (List ℕ) →
    Result Report RunFault → Type 0
TimesRunToEnd = RunsToEndAs Times

-- ---- the pulses

abbrev pub PulsesResult : Job → List EventLine → Option (List ℕ) → Option (List ℕ) →
    Result Report RunFault → Type 0
PulsesResult = ResultsAs Pulses

abbrev pub PulsesRunToEnd : Job → Option (List ℕ) → Option (List ℕ) →
    Result Report RunFault → Type 0
PulsesRunToEnd = RunsToEndAs Pulses

-- ---- the samples, with the bits of a mask inverted

abbrev pub SamplesResult : ℕ → Job → List EventLine → Option (List ℕ) → Option (List ℕ) →
    Result Report RunFault → Type 0
SamplesResult inverted = ResultsAs (Samples inverted)

abbrev pub SamplesRunToEnd : ℕ → Job → Option (List ℕ) → Option (List ℕ) →
    Result Report RunFault → Type 0
SamplesRunToEnd inverted = RunsToEndAs (Samples inverted)

-- ---- intermediate results, from a trace on

pub record IsTracedRun (trace : Trace) (job : Job) (lines : List EventLine)
    (old new : Option (List ℕ)) (report : Report) : Type 0 where
  pub outcomes : List Outcome
  pub run : IsRun job (events_of lines) outcomes
  pub written : Appends old new (whole_text trace (counted_of job outcomes))
  pub reports : Reports job (events_of lines) outcomes report

pub record IsUntracedRun (trace : Trace) (job : Job) (lines : List EventLine)
    (old new : Option (List ℕ)) : Type 0 where
  pub given : List Event
  pub left : List Event
  pub are_first : events_of lines ≡ given ++ left
  pub outcomes : List Outcome
  pub run : IsRun job given outcomes
  pub written : AppendsPrefix old new (whole_text trace (counted_of job outcomes))

pub record IsTracedThrough (trace : Trace) (job : Job) (old new : Option (List ℕ))
    (report : Report) : Type 0 where
  pub events : List Event
  pub outcomes : List Outcome
  pub smooth : IsSmoothRun job events outcomes
  pub done : (last_state (opening job.machine) smooth.run.states).done ≡ length job.commands
  pub ended : next_event job (last_state (opening job.machine) smooth.run.states) ≡ None
  pub told : ReportsEnd outcomes
  pub written : Appends old new (whole_text trace (counted_of job outcomes))
  pub reports : Reports job events outcomes report

pub record IsTracedOff (trace : Trace) (job : Job) (old new : Option (List ℕ)) : Type 0 where
  pub given : List Event
  pub outcomes : List Outcome
  pub smooth : IsSmoothRun job given outcomes
  pub written : AppendsPrefix old new (whole_text trace (counted_of job outcomes))
