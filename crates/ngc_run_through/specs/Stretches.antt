-- How a run continues without the operator: from one event to a later one. Our own.
use Rattle.std.specs.Prelude.{◌≡◌, ℕ, suc, slice_get, ◌+◌, ◌-◌, ◌*◌, ◌^◌, ◌≤◌, ◌<◌, List, [], ◌∷◌}
use Rattle.std.specs.Prelude.{◌++◌, length, count_by, Option, None, Some, Ok, Err, Bool, true}
use Rattle.std.specs.Prelude.{false}
use Rattle.std.specs.List.{AllByRecursion}
use Rattle.ngc_text.specs.Written.{AppendsPrefix}
use Rattle.ngc_machine_files.specs.MachineRanges.{IsMachine}
use Rattle.ngc_commands.specs.declared.command.Action.TheVariants as actions
use Rattle.ngc_commands.specs.declared.command.Command.{Command}
use Rattle.ngc_fixed_length.specs.Limits.{MILLION}
use Rattle.ngc_planner.specs.Caps.{STEPS_LIMIT}
use Rattle.ngc_events.specs.declared.event.Event.{Event}
use Rattle.ngc_events.specs.declared.reply.Ending.{Ending}
use Rattle.ngc_events.specs.declared.reply.Ending.TheVariants.{Done, Stopped, End}
use Rattle.ngc_events.specs.declared.reply.Reply.TheVariants.{Loaded, Ticked, Held, Resumed}
use Rattle.ngc_events.specs.declared.reply.Reply.TheVariants.{Overridden, Switched, Started}
use Rattle.ngc_machine_model.specs.State.{Job, Queued, State, command_at}
use Rattle.ngc_machine_model.specs.Step.{Outcome, Step, MayTake}
use Rattle.ngc_machine_model.specs.Progress.{GoesOn}
use Rattle.ngc_controller.specs.Controller.{ControllerData}
use Rattle.ngc_controller.specs.Fields.{DWELL_LIMIT}
use Rattle.ngc_controller.specs.Loaded.{AreShort, LoadsShort}
use Rattle.ngc_run_through.specs.declared.recorder.Recorder.{Recorder}
use Rattle.ngc_machine_model.specs.Stretch.{Stretch}
use Rattle.ngc_run_through.specs.Policy.{FollowPolicy}
use Rattle.ngc_run_through.specs.Recording.{Records, next_text}
use Rattle.ngc_run_through.specs.Runs.{is_refusal}
use Rattle.ngc_run_through.specs.Through.{IsLoadTickOrStart, ReportsEnd}

-- The override is 100 percent. The loaded commands are the job's next ones, each on its path, and
-- the finished part of the head is within bounds.
pub record IsUntouched (job : Job) (s : State) : Type 0 where
  pub machine : IsMachine job.machine
  pub not_held : s.held ≡ false
  pub percent : s.percent ≡ 100
  pub commands : (i : ℕ) (l : Queued) → slice_get s.ring i ≡ Some l →
      command_at job (s.done + i) ≡ Some l.command
  pub paths : AllByRecursion (λ (l : Queued). MayTake job l.command.action l.path) s.ring
  pub short : AreShort s.ring
  pub travelled : s.travelled ≤ STEPS_LIMIT * MILLION
  pub dwelt : s.dwelt ≤ DWELL_LIMIT

-- the finished part of the head: the millionths of its path, or the ticks of its dwell
abbrev pub spent : State → ℕ
spent s = s.travelled + s.dwelt

-- more than is spent on any head
abbrev pub SPENT_LIMIT : ℕ
SPENT_LIMIT = 2 ^ 101

-- the end of a command in an outcome, if one ended
abbrev pub ending_in : Outcome → Option Ending
ending_in (Ok (Ticked p ending)) = ending
ending_in (Ok (Loaded k)) = None
ending_in (Ok Held) = None
ending_in (Ok Resumed) = None
ending_in (Ok (Overridden n)) = None
ending_in (Ok (Switched on)) = None
ending_in (Ok Started) = None
ending_in (Err e) = None

abbrev pub is_stop : Ending → Bool
is_stop (Stopped k) = true
is_stop (Done k) = false
is_stop End = false

-- ---- one event

-- the event was processed, and its outcome is recorded
pub record IsGiven (event : Event) (old new : ControllerData) (before after : Recorder)
    (written now : Option (List ℕ)) (outcome : Outcome) : Type 0 where
  pub job : new.job ≡ old.job
  pub accepted : new.accepted ≡ old.accepted
  pub step : Step old.job old.state event outcome new.state
  pub goes_on : GoesOn old.job old.state event new.state
  pub short : LoadsShort event old.state new.state
  pub dwelt : new.state.dwelt ≤ DWELL_LIMIT
  pub records : Records (event ∷ []) (outcome ∷ []) before after written now

-- the event was processed, and then a write failed
pub record IsGivenLast (event : Event) (old : ControllerData) (before : Recorder)
    (written now : Option (List ℕ)) : Type 0 where
  pub outcome : Outcome
  pub reached : State
  pub step : Step old.job old.state event outcome reached
  pub goes_on : GoesOn old.job old.state event reached
  pub begun : AppendsPrefix written now (before.chunk ++ next_text before (outcome ∷ []))

-- ---- several events

-- At most `n` events were processed and recorded, each the next one by the policy. They load
-- `loads` commands and finish `does` commands.
pub record GoesBy (n loads does : ℕ) (old new : ControllerData) (before after : Recorder)
    (written now : Option (List ℕ)) : Type 0 where
  pub events : List Event
  pub outcomes : List Outcome
  pub kinds : AllByRecursion IsLoadTickOrStart events
  pub few : length events ≤ n
  pub none_refused : count_by is_refusal outcomes ≡ 0
  pub job : new.job ≡ old.job
  pub accepted : new.accepted ≡ old.accepted
  pub stretch : Stretch old.job old.state new.state events outcomes
  pub follows : FollowPolicy old.job old.state events stretch.states
  pub records : Records events outcomes before after written now
  pub untouched : IsUntouched new.job new.state
  pub done : new.state.done ≡ old.state.done + does
  pub ring : length new.state.ring + does ≡ length old.state.ring + loads

-- some events were processed, each the next one by the policy, and then a write failed
pub record BreaksOff (old : ControllerData) (before : Recorder) (written now : Option (List ℕ)) :
    Type 0 where
  pub events : List Event
  pub outcomes : List Outcome
  pub reached : State
  pub kinds : AllByRecursion IsLoadTickOrStart events
  pub none_refused : count_by is_refusal outcomes ≡ 0
  pub stretch : Stretch old.job old.state reached events outcomes
  pub follows : FollowPolicy old.job old.state events stretch.states
  pub begun : AppendsPrefix written now (before.chunk ++ next_text before outcomes)

-- ---- the result of a tick

-- the head continues
pub record Works (old new : State) : Type 0 where
  pub running : new.stopped ≡ false
  pub ring : new.ring ≡ old.ring
  pub spends : spent old < spent new

-- ticks without an output: the head continues
pub record Coasts (old new : ControllerData) (before after : Recorder) (written : Option (List ℕ)) :
    Type 0 where
  pub goes : GoesBy (spent new.state - spent old.state) 0 0 old new before after written written
  pub ring : new.state.ring ≡ old.state.ring
  pub running : new.state.stopped ≡ false
  pub spends : spent old.state ≤ spent new.state

-- the result of a tick, by how a command ended in it: the machine is stopped only after a stop
abbrev pub LeavesBy : Option Ending → State → State → Type 0
LeavesBy None old new = Works old new
LeavesBy (Some ending) old new = new.stopped ≡ is_stop ending

-- if the head that ended is the program's end, that is reported last
abbrev pub ReportsBy : Option Ending → List Queued → List Outcome → Type 0
ReportsBy None ring outcomes = Unit {0}
ReportsBy (Some ending) [] outcomes = Unit {0}
ReportsBy (Some ending) (l ∷ ls) outcomes =
    l.command.action ≡ actions.End → (ending ≡ End) × ReportsEnd outcomes

abbrev pub does_in : Option Ending → ℕ
does_in None = 0
does_in (Some ending) = 1

pub record TicksBy (old new : ControllerData) (before after : Recorder)
    (written now : Option (List ℕ)) (ending : Option Ending) : Type 0 where
  pub goes : GoesBy 1 0 (does_in ending) old new before after written now
  pub leaves : LeavesBy ending old.state new.state
  pub tells : ReportsBy ending old.state.ring goes.outcomes

-- ---- after an ending

-- nothing, unless it is a stop
pub record GoesBehind (ending : Ending) (old new : ControllerData) (before after : Recorder)
    (written now : Option (List ℕ)) : Type 0 where
  pub goes : GoesBy 1 0 0 old new before after written now
  pub nothing : is_stop ending ≡ false → goes.outcomes ≡ []

-- the head is done
abbrev pub ReportsHead : List Queued → List Outcome → Type 0
ReportsHead [] outcomes = Unit {0}
ReportsHead (l ∷ ls) outcomes = l.command.action ≡ actions.End → ReportsEnd outcomes

pub record FinishesHead (old new : ControllerData) (before after : Recorder)
    (written now : Option (List ℕ)) : Type 0 where
  pub goes : GoesBy (2 ^ 102) 0 1 old new before after written now
  pub told : ReportsHead old.state.ring goes.outcomes

-- the head is done at once, or nothing has happened
abbrev pub PassesHead : Bool → ControllerData → ControllerData → Recorder → Recorder →
    Option (List ℕ) → Type 0
PassesHead true old new before after written =
    FinishesHead old new before after written written × (new.state.stopped ≡ false)
PassesHead false old new before after written = (new ≡ old) × (after ≡ before)

-- the last command that is done
abbrev pub ReportsDone : Job → ℕ → List Outcome → Type 0
ReportsDone job done outcomes = (k : ℕ) (c : Command) → suc k ≡ done → command_at job k ≡ Some c →
    c.action ≡ actions.End → ReportsEnd outcomes

pub record Finishes (n loads does : ℕ) (old new : ControllerData) (before after : Recorder)
    (written now : Option (List ℕ)) : Type 0 where
  pub goes : GoesBy n loads does old new before after written now
  pub told : 0 < does → ReportsDone old.job new.state.done goes.outcomes
