-- A stretch of a run: from one state of the machine to a later one. Our own.
use Rattle.std.specs.Prelude.{◌≡◌, List, [], ◌∷◌}
use Rattle.ngc_events.specs.declared.event.Event.{Event}
use Rattle.ngc_machine_model.specs.State.{Job, State}
use Rattle.ngc_machine_model.specs.Step.{Outcome}
use Rattle.ngc_machine_model.specs.Run.{Run}
use Rattle.ngc_machine_model.specs.Progress.{KeepGoing}

-- the last of these states, or s if there is none
abbrev pub last_state : State → List State → State
last_state s [] = s
last_state s (t ∷ ts) = last_state t ts

-- these events lead from a state to another, and each free tick travels
pub record Stretch (job : Job) (old new : State) (events : List Event) (outcomes : List Outcome) :
    Type 0 where
  pub states : List State
  pub runs : Run job old events outcomes states
  pub goes_on : KeepGoing job old events states
  pub last : new ≡ last_state old states
