-- The ticks up to the end of a motion, at once. Our own.
use Rattle.std.specs.Prelude.{◌≡◌, ℕ, suc, List, [], ◌∷◌, length, drop, replicate, Some, Ok, Bool}
use Rattle.std.specs.Prelude.{true, false}
use Rattle.std.specs.List.{AllByRecursion}
use Rattle.ngc_planner.specs.Ramp.{RampState, TicksTo}
use Rattle.ngc_planner.specs.Stretches.{Ticks}
use Rattle.ngc_braking.specs.declared.leg.Leg.{Leg}
use Rattle.ngc_events.specs.declared.event.Event.TheVariants.{Tick}
use Rattle.ngc_events.specs.declared.reply.Ending.TheVariants.{Done}
use Rattle.ngc_events.specs.declared.reply.Reply.TheVariants.{Ticked}
use Rattle.ngc_machine_model.specs.State.{Job, Queued, State}
use Rattle.ngc_machine_model.specs.Step.{Outcome, Step, MayTake}
use Rattle.ngc_machine_model.specs.Progress.{GoesOn, is_free}
use Rattle.ngc_machine_model.specs.Run.{positions}
use Rattle.ngc_machine_model.specs.Stretch.{Stretch}
use Rattle.ngc_controller.specs.Drive.{is_head_by_place}
use Rattle.ngc_controller.specs.Ring.{IsMoving}

-- ---- of a ramp

-- a tick that ends the first leg
abbrev pub EndsBy : List Leg → RampState → ℕ → RampState → Type 0
EndsBy [] old wish new = ⊥
EndsBy (head ∷ legs) old wish new =
    (v : ℕ) × (due : Bool) × TicksTo old wish head legs v due true new

-- n ticks, the last of which ends the first leg
pub record EndsLeg (n : ℕ) (old : RampState) (wish : ℕ) (new : RampState) : Type 0 where
  pub before : ℕ
  pub count : n ≡ suc before
  pub mid : RampState
  pub ticks : Ticks before old wish mid
  pub same : mid.legs ≡ old.legs
  pub last : EndsBy mid.legs mid wish new

-- ---- of the machine

-- the paths of the loaded commands are those that the commands may take
abbrev pub TakePaths : Job → List Queued → Type 0
TakePaths job ring =
    AllByRecursion (λ (l : Queued). MayTake job l.command.action l.path) ring

-- the machine is free to travel, and the head is a motion with path steps whose target is the same at
-- each of its places
pub record MayFinish (job : Job) (s : State) : Type 0 where
  pub free : is_free s ≡ true
  pub moves : IsMoving s.ring
  pub steady : is_head_by_place job.machine s.ring ≡ false

-- nothing but the distance, the rate, its change and the position has changed
abbrev pub StaysOnHead : State → State → Type 0
StaysOnHead old s =
    s ≡ record old {
      travelled = s.travelled;
      rate = s.rate;
      change = s.change;
      position = s.position;
    }

-- n ticks on the motion at the head, which ends in the last one. They have this number of pulses; the
-- last tick has one, which leads to the new position.
pub record FinishesMotion (n pulses : ℕ) (job : Job) (old new : State) : Type 0 where
  pub before : ℕ
  pub count : n ≡ suc before
  pub outcomes : List Outcome
  pub mid : State
  pub goes : Stretch job old mid (replicate before Tick) outcomes
  pub stays : AllByRecursion (StaysOnHead old) goes.states
  pub last : Outcome
  pub told : last ≡ Ok (Ticked (Some new.position) (Some (Done old.done)))
  pub ends : Step job mid Tick last new
  pub goes_on : GoesOn job mid Tick new
  pub steps : pulses ≡ suc (length (positions outcomes))
  pub leaves : new ≡ record old {
    done = suc old.done;
    ring = drop 1 old.ring;
    travelled = new.travelled;
    dwelt = 0;
    rate = new.rate;
    change = new.change;
    position = new.position;
  }
