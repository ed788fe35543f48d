-- A loaded command with its path and the position on it. Our own.
use Rattle.std.specs.Prelude.{◌≡◌, ℕ, ℤ, ◌+◌, ◌≤◌, List, [], Bool, if◌then◌else◌}
use Rattle.std.specs.List.{AllByRecursion}
use Rattle.ngc_fixed_length.specs.declared.points.StepPos.{StepPos}
use Rattle.ngc_planner.specs.ArcFeed.{helix_length}
use Rattle.ngc_planner.specs.Bounds.{IsMotion}
use Rattle.ngc_planner.specs.Caps.{STEPS_LIMIT}
use Rattle.ngc_events.specs.declared.event.Event.{Event}
use Rattle.ngc_events.specs.declared.event.Event.TheVariants.{Load, Tick, Hold, Resume, Override}
use Rattle.ngc_events.specs.declared.event.Event.TheVariants.{StopSwitch, Start}
use Rattle.ngc_machine_model.specs.State.{State, Queued, path_steps}
use Rattle.ngc_controller.specs.declared.route.Route.{Route}
use Rattle.ngc_controller.specs.declared.route.Route.TheVariants.{Line, Arc, Still}

-- the points of a route and the position on it; a command that is no motion has none
abbrev pub points_of : {K : Type 0} → (K → List StepPos) → Route K → List StepPos
points_of points (Line line) = line.points
points_of points (Arc arc) = points arc
points_of points Still = []

abbrev pub place_of : {K : Type 0} → (K → ℕ) → Route K → ℕ
place_of place (Line line) = line.place
place_of place (Arc arc) = place arc
place_of place Still = 0

-- the next position if it is due
abbrev pub next_place : ℕ → Bool → ℕ
next_place place due = if due then place + 1 else place

-- the loaded command, and the position on its path
pub record LoadedData : Type 0 where
  pub queued : Queued
  pub place : ℕ

-- the number of its path steps, which is above 0 only for motions; and the length of a helix on the
-- grid of a step
pub record IsLoaded (queued : Queued) (steps : ℕ) (step : ℤ) (length : ℕ) : Type 0 where
  pub count : steps ≡ path_steps queued
  pub few : steps ≤ STEPS_LIMIT
  pub moves : 1 ≤ steps → IsMotion queued.command.action
  pub sloped : length ≡ helix_length step queued.command.action steps

-- each of these paths has at most 10^9 path steps
abbrev pub AreShort : List Queued → Type 0
AreShort queue = AllByRecursion (λ (l : Queued). path_steps l ≤ STEPS_LIMIT) queue

-- and so has the path of a command that an event loads
abbrev pub LoadsShort : Event → State → State → Type 0
LoadsShort Load old new = AreShort old.ring → AreShort new.ring
LoadsShort Tick old new = Unit {0}
LoadsShort Hold old new = Unit {0}
LoadsShort Resume old new = Unit {0}
LoadsShort (Override n) old new = Unit {0}
LoadsShort (StopSwitch on) old new = Unit {0}
LoadsShort Start old new = Unit {0}
