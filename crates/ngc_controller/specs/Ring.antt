-- The ring of loaded commands. Our own.
use Rattle.std.specs.Prelude.{◌≡◌, ℕ, suc, ◌<◌, ◌≤◌, List, [], ◌∷◌, map, Option, Some, None}
use Rattle.std.specs.List.{AllByRecursion}
use Rattle.ngc_fixed_length.specs.declared.points.StepPos.{StepPos}
use Rattle.ngc_fixed_length.specs.LinePath.{point}
use Rattle.ngc_commands.specs.declared.command.Action.{Action}
use Rattle.ngc_planner.specs.Bounds.{IsMotion}
use Rattle.ngc_planner.specs.Ramp.{MOST_LEGS}
use Rattle.ngc_machine_model.specs.State.{Queued, path_steps}
use Rattle.ngc_controller.specs.Loaded.{LoadedData}

-- the loaded commands, the head first, the position on the head's path, and the greatest number of
-- commands; all but the head are at the beginning of their paths
pub record RingData : Type 0 where
  pub loaded : List Queued
  pub place : ℕ
  pub room : ℕ

abbrev pub queue_of : Option LoadedData → List LoadedData → List Queued
queue_of None afterwards = map (λ (l : LoadedData). l.queued) afterwards
queue_of (Some head) afterwards = head.queued ∷ map (λ (l : LoadedData). l.queued) afterwards

abbrev pub place_at : Option LoadedData → ℕ
place_at None = 0
place_at (Some head) = head.place

-- nothing waits without a head
abbrev pub IsLed : Option LoadedData → List LoadedData → Type 0
IsLed None afterwards = afterwards ≡ []
IsLed (Some head) afterwards = Unit {0}

-- the invariant of a ring
pub record IsRing (head : Option LoadedData) (afterwards : List LoadedData) (capacity : ℕ) :
    Type 0 where
  pub few : suc capacity ≤ MOST_LEGS
  pub led : IsLed head afterwards
  pub waits : AllByRecursion (λ (l : LoadedData). l.place ≡ 0) afterwards

abbrev pub head_of : List Queued → ℕ → Option LoadedData
head_of [] p = None
head_of (l ∷ ls) p = Some (record { queued = l; place = p })

-- the head is a motion with path steps
abbrev pub IsMoving : List Queued → Type 0
IsMoving [] = ⊥
IsMoving (l ∷ ls) = 1 ≤ path_steps l

-- the point at a position of the head's path
abbrev pub IsPointOn : List Queued → ℕ → StepPos → Type 0
IsPointOn [] place p = ⊥
IsPointOn (l ∷ ls) place p = (p ≡ point l.path place) × IsMotion l.command.action

-- the head's path has a next point
abbrev pub HasNext : List Queued → ℕ → Type 0
HasNext [] place = ⊥
HasNext (l ∷ ls) place = place < path_steps l

abbrev pub action_of : List Queued → Option Action
action_of [] = None
action_of (l ∷ ls) = Some l.command.action
