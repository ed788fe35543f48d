-- A run by the counts of its motors. A motor whose step is longer than the grid's has a pulse only
-- where its count changes. Our own.
use Rattle.std.specs.Prelude.{◌≡◌, ℤ, List, [], ◌∷◌, map, Option, Some, None, Ok, Err, Bool, false}
use Rattle.std.specs.Prelude.{◌&&◌, if◌then◌else◌, unsigned_abs}
use Rattle.std.specs.Ordering.{int_eq}
use Rattle.ngc_fixed_length.specs.Length.{IsStep}
use Rattle.ngc_fixed_length.specs.declared.points.StepPos.{StepPos}
use Rattle.ngc_motors.specs.Counts.{MotorData, counts, equal_steps}
use Rattle.ngc_machine_files.specs.Machine.{motors_of}
use Rattle.ngc_events.specs.declared.event.Event.{Event}
use Rattle.ngc_events.specs.declared.reply.Reply.TheVariants.{Loaded, Ticked, Held, Resumed}
use Rattle.ngc_events.specs.declared.reply.Reply.TheVariants.{Overridden, Switched, Started}
use Rattle.ngc_machine_model.specs.State.{Job, State}
use Rattle.ngc_machine_model.specs.Step.{Outcome}
use Rattle.ngc_machine_model.specs.Run.{position_in, pulses}
use Rattle.ngc_machine_model.specs.Safety.{start_of_job}

-- the last of these positions, or `p` if there is none
abbrev pub last_position : StepPos → List StepPos → StepPos
last_position p [] = p
last_position p (q ∷ qs) = last_position q qs

abbrev pub is_same : StepPos → StepPos → Bool
is_same p q = int_eq p.x q.x && (int_eq p.y q.y && int_eq p.z q.z)

-- the counts to which a tick leads from the grid point p, if one of them changes
abbrev pub counted_tick : MotorData → StepPos → Option StepPos → Option StepPos
counted_tick m p None = None
counted_tick m p (Some q) = if is_same (counts m p) (counts m q) then None else Some (counts m q)

abbrev pub counted_outcome : MotorData → StepPos → Outcome → Outcome
counted_outcome m p (Ok (Ticked position ending)) = Ok (Ticked (counted_tick m p position) ending)
counted_outcome m p (Ok (Loaded k)) = Ok (Loaded k)
counted_outcome m p (Ok Held) = Ok Held
counted_outcome m p (Ok Resumed) = Ok Resumed
counted_outcome m p (Ok (Overridden n)) = Ok (Overridden n)
counted_outcome m p (Ok (Switched on)) = Ok (Switched on)
counted_outcome m p (Ok Started) = Ok Started
counted_outcome m p (Err e) = Err e

-- outcomes of a machine that is at p at first, with the motors' counts in place of positions
abbrev pub counted : MotorData → StepPos → List Outcome → List Outcome
counted m p [] = []
counted m p (o ∷ outcomes) = counted_outcome m p o ∷ counted m (last_position p (position_in o)) outcomes

-- those of a job
abbrev pub counted_of : Job → List Outcome → List Outcome
counted_of job outcomes = counted (motors_of job.machine) (start_of_job job) outcomes

-- ---- the pulses of the motors

abbrev pub counted_state : MotorData → State → State
counted_state m s = record s { position = counts m s.position }

-- in each tick, how far each count changes
abbrev pub motor_pulses : Job → List Event → List State → List StepPos
motor_pulses job events states =
    pulses (counts (motors_of job.machine) (start_of_job job)) events
    (map (counted_state (motors_of job.machine)) states)

-- ---- motors that all have the grid's step

abbrev pub equal_motors : ℤ → MotorData
equal_motors step = record { grid = step; steps = equal_steps (unsigned_abs step) }

-- each position that is reported differs from the one before it, the first from p
abbrev pub Moves : StepPos → List Outcome → Type 0
Moves p [] = Unit {0}
Moves p (o ∷ outcomes) =
    ((q : StepPos) → position_in o ≡ q ∷ [] → is_same p q ≡ false) ×
    Moves (last_position p (position_in o)) outcomes

-- with such motors nothing changes
abbrev pub EqualMotorsKeep : Type 0
EqualMotorsKeep = (step : ℤ) (p : StepPos) (outcomes : List Outcome) → IsStep step →
    Moves p outcomes → counted (equal_motors step) p outcomes ≡ outcomes
