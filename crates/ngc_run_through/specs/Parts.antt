-- How long a run through a program takes with each tool. Our own.
use Rattle.std.specs.Prelude.{◌≡◌, ℕ, suc, ◌+◌, ◌*◌, ◌^◌, ◌<◌, min, List, [], ◌∷◌, ◌++◌, length}
use Rattle.std.specs.Prelude.{drop, count_by, None, if◌then◌else◌}
use Rattle.ngc_commands.specs.declared.command.Command.{Command}
use Rattle.ngc_commands.specs.Reached.{mounts}
use Rattle.ngc_events.specs.declared.event.Event.{Event}
use Rattle.ngc_machine_model.specs.State.{Job, State, opening}
use Rattle.ngc_machine_model.specs.Step.{Outcome}
use Rattle.ngc_machine_model.specs.Progress.{is_tick}
use Rattle.ngc_machine_model.specs.Stretch.{last_state, Stretch}
use Rattle.ngc_controller.specs.Controller.{ControllerData}
use Rattle.ngc_run_through.specs.declared.recorder.Recorder.{Recorder}
use Rattle.ngc_run_through.specs.Policy.{next_event}
use Rattle.ngc_run_through.specs.Stretches.{GoesBy, ReportsDone}
use Rattle.ngc_run_through.specs.Through.{IsSmoothRun, ReportsEnd}

-- ---- parts of a program

-- the number of commands up to the next change of the tool, including it; or all of them
abbrev pub part_length : List Command → ℕ
part_length [] = 0
part_length (c ∷ cs) = if mounts c.action then 1 else suc (part_length cs)

-- ---- and of a run

-- The `n` ticks from a command that isn't done up to the end of the next change of the tool, or of
-- the last command.
pub record IsPart (job : Job) (old new : State) (n : ℕ) (events : List Event)
    (outcomes : List Outcome) : Type 0 where
  pub some : old.done < length job.commands
  pub stretch : Stretch job old new events outcomes
  pub done : new.done ≡ old.done + part_length (drop old.done job.commands)
  pub ticks : n ≡ count_by is_tick events

-- parts in order
abbrev pub RunsInParts : Job → State → List ℕ → List Event → List Outcome → State → Type 0
RunsInParts job old [] events outcomes new = (events ≡ []) × (outcomes ≡ []) × (new ≡ old)
RunsInParts job old (n ∷ ns) events outcomes new =
    (first : List Event) × (later : List Event) × (told : List Outcome) × (more : List Outcome) ×
    (mid : State) ×
    (events ≡ first ++ later) × (outcomes ≡ told ++ more) × IsPart job old mid n first told ×
    RunsInParts job mid ns later more new

-- A run by itself through all commands has `n` ticks, and its parts have these `times`. The end is
-- reported last, and no event comes next.
pub record IsTimedThrough (job : Job) (n : ℕ) (times : List ℕ) : Type 0 where
  pub events : List Event
  pub outcomes : List Outcome
  pub smooth : IsSmoothRun job events outcomes
  pub done : (last_state (opening job.machine) smooth.run.states).done ≡ length job.commands
  pub ended : next_event job (last_state (opening job.machine) smooth.run.states) ≡ None
  pub told : ReportsEnd outcomes
  pub ticks : n ≡ count_by is_tick events
  pub parts : RunsInParts job (opening job.machine) times events outcomes
      (last_state (opening job.machine) smooth.run.states)

-- ---- intermediate results

-- `count` more commands are done. The last one reports its end if no command is left to load.
pub record FinishesPart (count unloaded : ℕ) (old new : ControllerData) (before after : Recorder) :
    Type 0 where
  pub goes : GoesBy (count * 2 ^ 103) (min count unloaded) count old new before after None None
  pub told : unloaded < count → ReportsDone old.job new.state.done goes.outcomes

-- `does` more commands are done, in parts
pub record GoesParted (n loads does : ℕ) (old new : ControllerData) (before after : Recorder)
    (parts : List ℕ) : Type 0 where
  pub goes : GoesBy n loads does old new before after None None
  pub parted : RunsInParts old.job old.state parts goes.events goes.outcomes new.state
  pub told : 0 < does → new.state.done ≡ length old.job.commands →
      ReportsDone old.job new.state.done goes.outcomes
