-- One event, as a step of the machine: paths and rates are free within the rules (NISTIR 6556,
-- 3.6.1 for stops, 3.5.4 for dwells). Our own otherwise.
use Rattle.std.specs.Prelude.{◌≡◌, ℕ, suc, ◌+◌, ◌-◌, ◌*◌, ◌/◌, ◌≤◌, max, min, nat_lt, nat_le, List}
use Rattle.std.specs.Prelude.{[], ◌∷◌, ◌++◌, length, drop, Option, Some, None, Result, Ok, Err}
use Rattle.std.specs.Prelude.{Bool, true, false, MatchBool, if◌then◌else◌}
use Rattle.ngc_fixed_length.specs.declared.points.StepPos.{StepPos}
use Rattle.ngc_fixed_length.specs.LinePath.{point}
use Rattle.ngc_commands.specs.declared.command.Action.{Action}
use Rattle.ngc_commands.specs.declared.command.Action.TheVariants as actions
use Rattle.ngc_commands.specs.declared.command.Command.{Command}
use Rattle.ngc_commands.specs.ProgramPath.{IsPathOf}
use Rattle.ngc_fixed_length.specs.Limits.{MILLION}
use Rattle.ngc_events.specs.declared.event.Event.{Event}
use Rattle.ngc_events.specs.declared.event.Event.TheVariants.{Load, Tick, Hold, Resume, Override}
use Rattle.ngc_events.specs.declared.event.Event.TheVariants.{StopSwitch, Start}
use Rattle.ngc_events.specs.declared.reply.Ending.{Ending}
use Rattle.ngc_events.specs.declared.reply.Ending.TheVariants.{Done, Stopped, End}
use Rattle.ngc_events.specs.declared.reply.Reply.{Reply}
use Rattle.ngc_events.specs.declared.reply.Reply.TheVariants.{Loaded, Ticked, Held, Resumed}
use Rattle.ngc_events.specs.declared.reply.Reply.TheVariants.{Overridden, Switched, Started}
use Rattle.ngc_events.specs.declared.event_fault.EventFault.{EventFault}
use Rattle.ngc_events.specs.declared.event_fault.EventFault.TheVariants.{OverrideTooLarge, RingFull}
use Rattle.ngc_events.specs.declared.event_fault.EventFault.TheVariants.{AllLoaded}
use Rattle.ngc_machine_model.specs.State.{Job, State, Queued, loaded, command_at, path_steps}
use Rattle.ngc_machine_model.specs.State.{millionths, change_of, place_before}
use Rattle.ngc_machine_model.specs.RateRules.{MayTravel}

-- a reply, or why the event was refused
abbrev pub Outcome : Type 0
Outcome = Result Reply EventFault

-- ---- load

-- the paths that an action may take
abbrev pub MayTake : Job → Action → List StepPos → Type 0
MayTake job (actions.Move m) path = IsPathOf job.machine.step m.way path
MayTake job _ path = path ≡ []

abbrev pub LoadCommand : Job → State → Option Command → Outcome → State → Type 0
LoadCommand job old None outcome new = (outcome ≡ Err AllLoaded) × (new ≡ old)
LoadCommand job old (Some c) outcome new =
    MatchBool (nat_lt (length old.ring) job.machine.ring)
    ((path : List StepPos) × MayTake job c.action path × (outcome ≡ Ok (Loaded (loaded old))) ×
    (new ≡ record old { ring = old.ring ++ record { command = c; path = path } ∷ [] }))
    ((outcome ≡ Err RingFull) × (new ≡ old))

-- ---- a tick

-- nothing travels, and nothing is done
pub record Rests (old : State) (outcome : Outcome) (new : State) : Type 0 where
  pub slow : old.rate ≤ old.change
  pub quiet : outcome ≡ Ok (Ticked None None)
  pub stands : new ≡ record old { rate = 0 }

-- the number of ticks of an action without travel
abbrev pub ticks_of : Job → Action → ℕ
ticks_of job (actions.Dwell n) =
    max 1 ((n * job.machine.ticks_per_second + (MILLION - 1)) / MILLION)
ticks_of job _ = 1

-- the changes that an action makes when it ends; an optional stop reads the switch then
abbrev pub after : Action → State → State
after (actions.Mount tool) s = record s { tool = tool }
after (actions.Override on) s = record s { overrides = on }
after actions.Stop s = record s { stopped = true }
after actions.OptionalStop s = record s { stopped = s.stop_switch }
after _ s = s

abbrev pub ending : Action → State → Ending
ending actions.Stop s = Stopped s.done
ending actions.OptionalStop s = if s.stop_switch then Stopped s.done else Done s.done
ending actions.End s = End
ending _ s = Done s.done

-- the head leaves the ring, with over millionths travelled on the next
abbrev pub without_head : ℕ → State → State
without_head over s =
    record s { done = suc s.done; ring = drop 1 s.ring; travelled = over; dwelt = 0 }

-- an action without travel is done, or continues to dwell
pub record Finishes (action : Action) (old : State) (outcome : Outcome) (new : State) : Type 0 where
  pub slow : old.rate ≤ old.change
  pub says : outcome ≡ Ok (Ticked None (Some (ending action old)))
  pub goes_on : new ≡ after action (record (without_head 0 old) { rate = 0 })

pub record Dwells (old : State) (outcome : Outcome) (new : State) : Type 0 where
  pub slow : old.rate ≤ old.change
  pub quiet : outcome ≡ Ok (Ticked None None)
  pub counts : new ≡ record old { rate = 0; dwelt = suc old.dwelt }

abbrev pub Serves : Job → Action → State → Outcome → State → Type 0
Serves job action old outcome new =
    MatchBool (nat_lt (suc old.dwelt) (ticks_of job action)) (Dwells old outcome new)
    (Finishes action old outcome new)

-- the position on the head's path after v more millionths
abbrev pub place_after : Queued → State → ℕ → ℕ
place_after l s v = min (s.travelled + v) (millionths l) / MILLION

-- the position after a pulse, if one is due
abbrev pub pulse : Queued → State → ℕ → Option StepPos
pulse l s v = if nat_lt (place_before s) (place_after l s v)
    then Some (point l.path (place_after l s v)) else None

abbrev pub ends_at : Queued → State → ℕ → Option Ending
ends_at l s v =
    if nat_le (millionths l) (s.travelled + v) then Some (ending l.command.action s) else None

abbrev pub moved_by : Job → Queued → State → ℕ → State
moved_by job l s v =
    let there = record s {
      rate = v;
      change = change_of job l;
      position = point l.path (place_after l s v);
    } in
    if nat_le (millionths l) (s.travelled + v)
    then without_head (s.travelled + v - millionths l) there
    else record there { travelled = s.travelled + v }

pub record Travels (job : Job) (l : Queued) (ls : List Queued) (old : State) (outcome : Outcome)
    (new : State) : Type 0 where
  pub may : MayTravel job l ls old new.rate
  pub says : outcome ≡ Ok (Ticked (pulse l old new.rate) (ends_at l old new.rate))
  pub goes_on : new ≡ moved_by job l old new.rate

abbrev pub HeadTick : Job → Queued → List Queued → State → Outcome → State → Type 0
HeadTick job l ls old outcome new =
    MatchBool (nat_lt 0 (path_steps l)) (Travels job l ls old outcome new)
    (MatchBool old.held (Rests old outcome new) (Serves job l.command.action old outcome new))

abbrev pub TickBy : Job → Bool → List Queued → State → Outcome → State → Type 0
TickBy job true ring old outcome new = Rests old outcome new
TickBy job false [] old outcome new = Rests old outcome new
TickBy job false (l ∷ ls) old outcome new = HeadTick job l ls old outcome new

-- ---- all events

abbrev pub Step : Job → State → Event → Outcome → State → Type 0
Step job old Load outcome new = LoadCommand job old (command_at job (loaded old)) outcome new
Step job old Tick outcome new = TickBy job old.stopped old.ring old outcome new
Step job old Hold outcome new = (outcome ≡ Ok Held) × (new ≡ record old { held = true })
Step job old Resume outcome new = (outcome ≡ Ok Resumed) × (new ≡ record old { held = false })
Step job old Start outcome new = (outcome ≡ Ok Started) × (new ≡ record old { stopped = false })
Step job old (StopSwitch on) outcome new =
    (outcome ≡ Ok (Switched on)) × (new ≡ record old { stop_switch = on })
Step job old (Override n) outcome new =
    MatchBool (nat_le n 200)
    ((outcome ≡ Ok (Overridden n)) × (new ≡ record old { percent = n }))
    ((outcome ≡ Err OverrideTooLarge) × (new ≡ old))
