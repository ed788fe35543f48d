-- The result of a run over lists of events. Our own.
use Rattle.std.specs.Prelude.{◌≡◌, ℕ, List, ◌++◌, length, count_by, Option, Ok, Err}
use Rattle.std.specs.Prelude.{Result, Bool, true, false}
use Rattle.std.specs.Io.KnownBytes.{Appends, Keeps}
use Rattle.ngc_text.specs.Failures.{Rises}
use Rattle.ngc_text.specs.Written.{AppendsPrefix}
use Rattle.ngc_events.specs.declared.event.Event.{Event}
use Rattle.ngc_events.specs.declared.event.EventLine.{EventLine}
use Rattle.ngc_machine_model.specs.State.{Job, State, opening}
use Rattle.ngc_machine_model.specs.Step.{Outcome}
use Rattle.ngc_machine_model.specs.Run.{Run, events_of, positions}
use Rattle.ngc_machine_model.specs.Safety.{IsSafeRun, start_of_job}
use Rattle.ngc_machine_model.specs.Progress.{KeepGoing, is_tick, IsDoneInTime}
use Rattle.ngc_run_through.specs.declared.report.Report.{Report}
use Rattle.ngc_run_through.specs.declared.report.RunFault.{RunFault}
use Rattle.ngc_run_through.specs.declared.report.RunFault.TheVariants.{Memory, Write}
use Rattle.ngc_run_through.specs.Counting.{counted_of, last_position}
use Rattle.ngc_run_through.specs.Log.{log}

abbrev pub is_refusal : Outcome → Bool
is_refusal (Ok reply) = false
is_refusal (Err e) = true

-- A run over these events, from the opening state. It is safe, moves on at each tick that is free
-- to, and is done in time.
pub record IsRun (job : Job) (events : List Event) (outcomes : List Outcome) : Type 0 where
  pub states : List State
  pub runs : Run job (opening job.machine) events outcomes states
  pub is_safe : IsSafeRun job events outcomes states
  pub goes_on : KeepGoing job (opening job.machine) events states
  pub in_time : IsDoneInTime job events states

-- the report's numbers are those of the run
pub record Reports (job : Job) (events : List Event) (outcomes : List Outcome) (report : Report) :
    Type 0 where
  pub ticks : report.ticks ≡ count_by is_tick events
  pub path_steps : report.path_steps ≡ length (positions outcomes)
  pub refused : report.refused ≡ count_by is_refusal outcomes
  pub position : report.position ≡ last_position (start_of_job job) (positions outcomes)

-- all events were processed, and what was written is the log of their
-- outcomes, with the motors' counts as positions
pub record IsLoggedRun (job : Job) (lines : List EventLine) (old new : Option (List ℕ))
    (report : Report) : Type 0 where
  pub outcomes : List Outcome
  pub run : IsRun job (events_of lines) outcomes
  pub logged : Appends old new (log (counted_of job outcomes))
  pub reports : Reports job (events_of lines) outcomes report

-- a prefix of the events was processed, and what was written is a prefix of the log of their
-- outcomes
pub record IsBrokenRun (job : Job) (lines : List EventLine) (old new : Option (List ℕ)) :
    Type 0 where
  pub given : List Event
  pub left : List Event
  pub are_first : events_of lines ≡ given ++ left
  pub outcomes : List Outcome
  pub run : IsRun job given outcomes
  pub logged : AppendsPrefix old new (log (counted_of job outcomes))

-- The result of a run, with the bytes of its sink where they are known. If memory runs out, nothing
-- was written.
abbrev pub ResultsIn : Job → List EventLine → Option (List ℕ) → Option (List ℕ) →
    Result Report RunFault → Type 0
ResultsIn job lines old new (Ok report) = IsLoggedRun job lines old new report
ResultsIn job lines old new (Err (Write fault)) = IsBrokenRun job lines old new
ResultsIn job lines old new (Err Memory) = Keeps old new

-- the sink's count of failures rose if a write failed, and is unchanged otherwise
abbrev pub FailsByWriting : Result Report RunFault → ℕ → ℕ → Type 0
FailsByWriting (Ok report) old new = new ≡ old
FailsByWriting (Err (Write fault)) old new = Rises old new
FailsByWriting (Err Memory) old new = new ≡ old

abbrev pub number_of : RunFault → ℕ
number_of Memory = 900
number_of (Write fault) = 902
