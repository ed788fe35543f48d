-- Runs of the machine over lists of events. Our own.
use Rattle.std.specs.Prelude.{◌-ℤ◌, List, [], ◌∷◌, flat_map, replicate, Some, None, Ok, Err}
use Rattle.ngc_fixed_length.specs.declared.points.StepPos.{StepPos}
use Rattle.ngc_events.specs.declared.event.Event.{Event}
use Rattle.ngc_events.specs.declared.event.Event.TheVariants.{Load, Tick, Hold, Resume, Override}
use Rattle.ngc_events.specs.declared.event.Event.TheVariants.{StopSwitch, Start}
use Rattle.ngc_events.specs.declared.event.EventLine.{EventLine}
use Rattle.ngc_events.specs.declared.reply.Reply.TheVariants.{Loaded, Ticked, Held, Resumed}
use Rattle.ngc_events.specs.declared.reply.Reply.TheVariants.{Overridden, Switched, Started}
use Rattle.ngc_machine_model.specs.State.{Job, State}
use Rattle.ngc_machine_model.specs.Step.{Outcome, Step}

-- one step after the other: the outcome of each event, and the state after it
abbrev pub Run : Job → State → List Event → List Outcome → List State → Type 0
Run job old [] [] [] = Unit {0}
Run job old (e ∷ es) (o ∷ os) (new ∷ states) = Step job old e o new × Run job new es os states
Run job old [] (o ∷ os) states = ⊥
Run job old [] [] (new ∷ states) = ⊥
Run job old (e ∷ es) [] states = ⊥
Run job old (e ∷ es) (o ∷ os) [] = ⊥

-- the events of lines
abbrev pub events_of : List EventLine → List Event
events_of lines = flat_map (λ line. replicate line.times line.event) lines

-- ---- the effect of a run's ticks

-- the positions to which pulses lead
abbrev pub position_in : Outcome → List StepPos
position_in (Ok (Ticked (Some p) ending)) = p ∷ []
position_in (Ok (Ticked None ending)) = []
position_in (Ok (Loaded k)) = []
position_in (Ok Held) = []
position_in (Ok Resumed) = []
position_in (Ok (Overridden n)) = []
position_in (Ok (Switched on)) = []
position_in (Ok Started) = []
position_in (Err e) = []

abbrev pub positions : List Outcome → List StepPos
positions outcomes = flat_map position_in outcomes

-- the movement of each axis from p to q
abbrev pub step_to : StepPos → StepPos → StepPos
step_to p q = record { x = q.x -ℤ p.x; y = q.y -ℤ p.y; z = q.z -ℤ p.z }

-- the pulse of each tick, 0 0 0 if there is none
abbrev pub pulses : StepPos → List Event → List State → List StepPos
pulses p [] states = []
pulses p (e ∷ es) [] = []
pulses p (Tick ∷ es) (new ∷ states) = step_to p new.position ∷ pulses new.position es states
pulses p (Load ∷ es) (new ∷ states) = pulses new.position es states
pulses p (Hold ∷ es) (new ∷ states) = pulses new.position es states
pulses p (Resume ∷ es) (new ∷ states) = pulses new.position es states
pulses p (Override n ∷ es) (new ∷ states) = pulses new.position es states
pulses p (StopSwitch on ∷ es) (new ∷ states) = pulses new.position es states
pulses p (Start ∷ es) (new ∷ states) = pulses new.position es states
