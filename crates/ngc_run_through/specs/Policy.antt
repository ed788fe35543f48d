-- The event that a run by itself processes next, by the state of the machine. Our own.
use Rattle.std.specs.Prelude.{◌≡◌, nat_lt, List, [], ◌∷◌, length, Option, Some, None, Bool, ◌&&◌}
use Rattle.std.specs.Prelude.{if◌then◌else◌}
use Rattle.ngc_events.specs.declared.event.Event.{Event}
use Rattle.ngc_events.specs.declared.event.Event.TheVariants.{Load, Tick, Start}
use Rattle.ngc_machine_model.specs.State.{Job, State, loaded}

-- the ring has space, and a command is left to load
abbrev pub can_load : Job → State → Bool
can_load job s = nat_lt (length s.ring) job.machine.ring && nat_lt (loaded s) (length job.commands)

-- If the machine is stopped, the next event is a start. Otherwise it is a load if one is possible,
-- and a tick while a command isn't done. After the last command there is none.
abbrev pub next_event : Job → State → Option Event
next_event job s =
    if s.stopped then Some Start else
    if can_load job s then Some Load else
    if nat_lt s.done (length job.commands) then Some Tick else None

-- each event is the next one in the state before it
abbrev pub FollowPolicy : Job → State → List Event → List State → Type 0
FollowPolicy job old [] states = Unit {0}
FollowPolicy job old (e ∷ es) [] = ⊥
FollowPolicy job old (e ∷ es) (new ∷ states) =
    (next_event job old ≡ Some e) × FollowPolicy job new es states
