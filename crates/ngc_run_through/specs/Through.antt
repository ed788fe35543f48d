-- The result of a run that goes through the program by itself. Our own.
use Rattle.std.specs.Prelude.{◌≡◌, ℕ, List, [], ◌∷◌, ◌++◌, length, count_by, Option, Some, None, Ok}
use Rattle.std.specs.Prelude.{Err, Result}
use Rattle.std.specs.List.{AllByRecursion}
use Rattle.std.specs.Io.KnownBytes.{Appends, Keeps}
use Rattle.ngc_text.specs.Written.{AppendsPrefix}
use Rattle.ngc_events.specs.declared.event.Event.{Event}
use Rattle.ngc_events.specs.declared.event.Event.TheVariants.{Load, Tick, Hold, Resume, Override}
use Rattle.ngc_events.specs.declared.event.Event.TheVariants.{StopSwitch, Start}
use Rattle.ngc_events.specs.declared.reply.Ending.TheVariants.{End}
use Rattle.ngc_events.specs.declared.reply.Reply.TheVariants.{Ticked}
use Rattle.ngc_machine_model.specs.State.{Job, opening}
use Rattle.ngc_machine_model.specs.Step.{Outcome}
use Rattle.ngc_run_through.specs.declared.report.Report.{Report}
use Rattle.ngc_run_through.specs.declared.report.RunFault.{RunFault}
use Rattle.ngc_run_through.specs.declared.report.RunFault.TheVariants.{Memory, Write}
use Rattle.ngc_run_through.specs.Counting.{counted_of}
use Rattle.ngc_run_through.specs.Log.{log}
use Rattle.ngc_machine_model.specs.Stretch.{last_state}
use Rattle.ngc_run_through.specs.Policy.{next_event, FollowPolicy}
use Rattle.ngc_run_through.specs.Runs.{is_refusal, IsRun, Reports}

-- the operator only starts the machine again
abbrev pub IsLoadTickOrStart : Event → Type 0
IsLoadTickOrStart Load = Unit {0}
IsLoadTickOrStart Tick = Unit {0}
IsLoadTickOrStart Start = Unit {0}
IsLoadTickOrStart Hold = ⊥
IsLoadTickOrStart Resume = ⊥
IsLoadTickOrStart (Override n) = ⊥
IsLoadTickOrStart (StopSwitch on) = ⊥

-- a run over loads, ticks and starts, each of which is the next event by the policy, and none of
-- which is refused
pub record IsSmoothRun (job : Job) (events : List Event) (outcomes : List Outcome) : Type 0 where
  pub run : IsRun job events outcomes
  pub kinds : AllByRecursion IsLoadTickOrStart events
  pub follows : FollowPolicy job (opening job.machine) events run.states
  pub none_refused : count_by is_refusal outcomes ≡ 0

-- the last outcome reports the program's end
abbrev pub ReportsEnd : List Outcome → Type 0
ReportsEnd outcomes =
    (before : List Outcome) × (outcomes ≡ before ++ Ok (Ticked None (Some End)) ∷ [])

-- Every command is done at the end, the end is reported last, no event comes next, and what was
-- written is the log of all outcomes, with the motors' counts as positions.
pub record IsLoggedThrough (job : Job) (old new : Option (List ℕ)) (report : Report) : Type 0 where
  pub events : List Event
  pub outcomes : List Outcome
  pub smooth : IsSmoothRun job events outcomes
  pub done : (last_state (opening job.machine) smooth.run.states).done ≡ length job.commands
  pub ended : next_event job (last_state (opening job.machine) smooth.run.states) ≡ None
  pub told : ReportsEnd outcomes
  pub logged : Appends old new (log (counted_of job outcomes))
  pub reports : Reports job events outcomes report

-- some events of a smooth run were processed, and what was written is a prefix of the log of their
-- outcomes
pub record IsBrokenOff (job : Job) (old new : Option (List ℕ)) : Type 0 where
  pub given : List Event
  pub outcomes : List Outcome
  pub smooth : IsSmoothRun job given outcomes
  pub logged : AppendsPrefix old new (log (counted_of job outcomes))

-- The result of the run, with the bytes of its sink where they are known. If memory runs out,
-- nothing was written.
abbrev pub RunsToEnd : Job → Option (List ℕ) → Option (List ℕ) → Result Report RunFault → Type 0
RunsToEnd job old new (Ok report) = IsLoggedThrough job old new report
RunsToEnd job old new (Err (Write fault)) = IsBrokenOff job old new
RunsToEnd job old new (Err Memory) = Keeps old new
