-- A ring that is fed: loads come before each tick while one is possible. Our own.
use Rattle.std.specs.Prelude.{◌≡◌, ℕ, ◌≤◌, List, [], ◌∷◌, ◌++◌, replicate, Option, Bool, true, ◌&&◌}
use Rattle.std.specs.Prelude.{MatchBool}
use Rattle.ngc_text.specs.Written.{AppendsPrefix}
use Rattle.ngc_events.specs.declared.event.Event.{Event}
use Rattle.ngc_events.specs.declared.event.Event.TheVariants.{Load, Tick}
use Rattle.ngc_machine_model.specs.State.{Job, State}
use Rattle.ngc_machine_model.specs.Step.{Outcome}
use Rattle.ngc_machine_model.specs.Progress.{is_tick}
use Rattle.ngc_machine_model.specs.Stretch.{Stretch}
use Rattle.ngc_run_through.specs.declared.recorder.Recorder.{Recorder}
use Rattle.ngc_run_through.specs.Policy.{can_load}
use Rattle.ngc_run_through.specs.Recording.{Records, next_text}

-- A load comes before an event that is sent: the ring is fed, the event is a tick, and the ring has
-- space for a command that isn't loaded yet.
abbrev pub loads_first : Bool → Job → State → Event → Bool
loads_first feeds job s event = (is_tick event && feeds) && can_load job s

-- The events that the machine processes for the sent ones, each in the state before it: the sent
-- events, and the loads that come before ticks.
abbrev pub AreSent : Bool → Job → State → List Event → List Event → List State → Type 0
AreSent feeds job s [] [] [] = Unit {0}
AreSent feeds job s [] [] (t ∷ states) = ⊥
AreSent feeds job s (e ∷ sent) [] states = ⊥
AreSent feeds job s [] (g ∷ given) states = ⊥
AreSent feeds job s (e ∷ sent) (g ∷ given) [] = ⊥
AreSent feeds job s (e ∷ sent) (g ∷ given) (t ∷ states) =
    MatchBool (loads_first feeds job s e)
    ((g ≡ Load) × AreSent feeds job t (e ∷ sent) given states)
    ((g ≡ e) × AreSent feeds job t sent given states)

-- a prefix of them
abbrev pub AreBegun : Bool → Job → State → List Event → List Event → List State → Type 0
AreBegun feeds job s sent [] states = Unit {0}
AreBegun feeds job s [] (g ∷ given) states = ⊥
AreBegun feeds job s (e ∷ sent) (g ∷ given) [] = ⊥
AreBegun feeds job s (e ∷ sent) (g ∷ given) (t ∷ states) =
    MatchBool (loads_first feeds job s e)
    ((g ≡ Load) × AreBegun feeds job t (e ∷ sent) given states)
    ((g ≡ e) × AreBegun feeds job t sent given states)

-- events were sent, and the machine processed those that this takes
pub record Processes (feeds : Bool) (job : Job) (old new : State) (sent : List Event) : Type 0 where
  pub given : List Event
  pub outcomes : List Outcome
  pub stretch : Stretch job old new given outcomes
  pub are_sent : AreSent feeds job old sent given stretch.states

-- ---- intermediate results

-- events were sent, and those that the machine processed for them are recorded
pub record IsFed (feeds : Bool) (job : Job) (old new : State) (before after : Recorder)
    (written now : Option (List ℕ)) (sent : List Event) : Type 0 where
  pub given : List Event
  pub outcomes : List Outcome
  pub stretch : Stretch job old new given outcomes
  pub are_sent : AreSent feeds job old sent given stretch.states
  pub records : Records given outcomes before after written now

-- the machine processed a prefix of them, and then a write failed
pub record IsFedShort (feeds : Bool) (job : Job) (old : State) (before : Recorder)
    (written now : Option (List ℕ)) (sent : List Event) : Type 0 where
  pub given : List Event
  pub outcomes : List Outcome
  pub reached : State
  pub stretch : Stretch job old reached given outcomes
  pub are_begun : AreBegun feeds job old sent given stretch.states
  pub begun : AppendsPrefix written now (before.chunk ++ next_text before outcomes)

-- the machine processed `count` loads that come before a tick, whatever follows the tick
pub record IsLoaded (job : Job) (old new : State) (before after : Recorder)
    (written now : Option (List ℕ)) (count : ℕ) : Type 0 where
  pub few : count ≤ 1024
  pub outcomes : List Outcome
  pub stretch : Stretch job old new (replicate count Load) outcomes
  pub records : Records (replicate count Load) outcomes before after written now
  pub given : (sent given : List Event) (states : List State) →
      AreSent true job new (Tick ∷ sent) given states →
      AreSent true job old (Tick ∷ sent) (replicate count Load ++ given) (stretch.states ++ states)
  pub begun : (sent given : List Event) (states : List State) →
      AreBegun true job new (Tick ∷ sent) given states →
      AreBegun true job old (Tick ∷ sent) (replicate count Load ++ given) (stretch.states ++ states)
