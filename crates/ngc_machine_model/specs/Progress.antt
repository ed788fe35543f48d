-- The greatest duration of a motion. Our own.
use Rattle.std.specs.Prelude.{◌≡◌, ℕ, ◌+◌, ◌-◌, ◌/◌, ◌≤◌, ◌<◌, min, ◌==◌, nat_lt, List, [], ◌∷◌}
use Rattle.std.specs.Prelude.{slice_get, Any, Some, Bool, true, false, not, ◌&&◌, if◌then◌else◌}
use Rattle.ngc_planner.specs.Bounds.{least_travel}
use Rattle.ngc_events.specs.declared.event.Event.{Event}
use Rattle.ngc_events.specs.declared.event.Event.TheVariants.{Load, Tick, Hold, Resume, Override}
use Rattle.ngc_events.specs.declared.event.Event.TheVariants.{StopSwitch, Start}
use Rattle.ngc_machine_model.specs.State.{Job, Queued, State, opening, command_at, path_steps}
use Rattle.ngc_machine_model.specs.State.{millionths, effective}
use Rattle.ngc_machine_model.specs.Reach.{rest}
use Rattle.ngc_machine_model.specs.Step.{MayTake}

-- the machine is free to travel: neither held nor stopped, at an override of at least 1
pub record IsFree (s : State) : Type 0 where
  pub not_held : s.held ≡ false
  pub not_stopped : s.stopped ≡ false
  pub some_override : 0 < effective s

-- a free tick travels at least v on a head with path steps, or all of its rest
abbrev pub TravelsAtLeast : Job → List Queued → State → ℕ → Type 0
TravelsAtLeast job [] old v = Unit {0}
TravelsAtLeast job (l ∷ ls) old v =
    IsFree old → 0 < path_steps l →
    min (least_travel job.machine l.command.action (path_steps l)) (rest l old) ≤ v

abbrev pub GoesOn : Job → State → Event → State → Type 0
GoesOn job old Tick new = TravelsAtLeast job old.ring old new.rate
GoesOn job old Load new = Unit {0}
GoesOn job old Hold new = Unit {0}
GoesOn job old Resume new = Unit {0}
GoesOn job old (Override n) new = Unit {0}
GoesOn job old (StopSwitch on) new = Unit {0}
GoesOn job old Start new = Unit {0}

-- each tick of a run does
abbrev pub KeepGoing : Job → State → List Event → List State → Type 0
KeepGoing job old [] states = Unit {0}
KeepGoing job old (e ∷ es) [] = Unit {0}
KeepGoing job old (e ∷ es) (new ∷ states) = GoesOn job old e new × KeepGoing job new es states

-- ---- commands at the head

-- a loaded command is at the head, as command k
abbrev pub IsHead : ℕ → Queued → State → Type 0
IsHead k l s = (s.done ≡ k) × (slice_get s.ring 0 ≡ Some l)

-- it is in one of these states
abbrev pub BecomesHead : ℕ → Queued → List State → Type 0
BecomesHead k l states = Any (IsHead k l) states

-- it is the job's command k, on a path that it may take, and command k is never at the head on
-- another path
pub record KeepsPath (job : Job) (k : ℕ) (l : Queued) (states : List State) : Type 0 where
  pub command : command_at job k ≡ Some l.command
  pub path : MayTake job l.command.action l.path
  pub no_other : (m : Queued) → BecomesHead k m states → m ≡ l

-- ---- the resulting bound on ticks

abbrev pub is_tick : Event → Bool
is_tick Tick = true
is_tick Load = false
is_tick Hold = false
is_tick Resume = false
is_tick (Override n) = false
is_tick (StopSwitch on) = false
is_tick Start = false

abbrev pub is_free : State → Bool
is_free s = not (s.held) && (not (s.stopped) && nat_lt 0 (effective s))

-- whether command k is loaded and at the head
abbrev pub has_head : ℕ → State → List Queued → Bool
has_head k s [] = false
has_head k s (l ∷ ls) = s.done == k

-- the ticks of a run in which command k is at the head and the machine is free
abbrev pub free_ticks : ℕ → State → List Event → List State → ℕ
free_ticks k old [] states = 0
free_ticks k old (e ∷ es) [] = 0
free_ticks k old (e ∷ es) (new ∷ states) =
    (if is_tick e && (has_head k old old.ring && is_free old) then 1 else 0)
    + free_ticks k new es states

-- x / m, rounded up
abbrev pub ticks_for : ℕ → ℕ → ℕ
ticks_for x m = (x + (m - 1)) / m

-- a loaded motion travels at least at this rate in a free tick, or all of its rest
abbrev pub least_rate : Job → Queued → ℕ
least_rate job l = least_travel job.machine l.command.action (path_steps l)

-- the greatest number of free ticks of a loaded motion
abbrev pub most_ticks : Job → Queued → ℕ
most_ticks job l = ticks_for (millionths l) (least_rate job l)

-- each motion with path steps that reaches the head in a run is done within that number of free
-- ticks
abbrev pub IsDoneInTime : Job → List Event → List State → Type 0
IsDoneInTime job events states =
    (k : ℕ) (l : Queued) → BecomesHead k l states → 1 ≤ path_steps l →
    free_ticks k (opening job.machine) events states ≤ most_ticks job l
