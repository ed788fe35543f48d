-- The ramp of the motions in the ring, and the target rate of the head. Our own.
use Rattle.std.specs.Prelude.{◌≡◌, ℕ, suc, ◌≤◌, nat_lt, List, [], ◌∷◌, Bool, false, not, ◌&&◌}
use Rattle.std.specs.Prelude.{if◌then◌else◌}
use Rattle.ngc_machine_files.specs.Machine.{MachineFile}
use Rattle.ngc_braking.specs.declared.leg.Leg.{Leg}
use Rattle.ngc_fixed_length.specs.LinePath.{point}
use Rattle.ngc_planner.specs.ArcFeed.{target_on, is_by_place}
use Rattle.ngc_planner.specs.Ramp.{RampState, loaded}
use Rattle.ngc_machine_model.specs.State.{Job, Queued, path_steps}
use Rattle.ngc_machine_model.specs.Reach.{stops, leg_of, legs_after}

-- the axes need not stop after a command if a motion with path steps follows
abbrev pub continues_travel : Queued → Bool
continues_travel l = nat_lt 0 (path_steps l) && not (stops l.command.action)

-- the same for the last of these, or for the command before them
abbrev pub last_flows_on : Bool → List Queued → Bool
last_flows_on before [] = before
last_flows_on before (l ∷ ls) = last_flows_on (continues_travel l) ls

-- the legs of a ring whose head is command k; it no longer matters whether the axes reached the
-- head without a stop
abbrev pub legs_of : Job → ℕ → Bool → List Queued → List Leg
legs_of job k joined [] = []
legs_of job k joined (l ∷ ls) = if nat_lt 0 (path_steps l)
    then leg_of job k joined l ∷ legs_after job (suc k) l ls else legs_after job (suc k) l ls

-- command k is loaded: a motion with path steps is added to the ramp
abbrev pub with_one_more : Job → ℕ → Bool → Queued → RampState → RampState
with_one_more job k joined l ramp =
    if nat_lt 0 (path_steps l) then loaded ramp (leg_of job k joined l) else ramp

-- the target is that of the head at a point of its path
abbrev pub IsTarget : MachineFile → ℕ → List Queued → ℕ → ℕ → Type 0
IsTarget machine percent [] place target = Unit {0}
IsTarget machine percent (l ∷ ls) place target =
    1 ≤ path_steps l →
    target ≡ target_on machine l.command.action (path_steps l) percent (point l.path place)

-- it depends on that point
abbrev pub is_head_by_place : MachineFile → List Queued → Bool
is_head_by_place machine [] = false
is_head_by_place machine (l ∷ ls) = is_by_place machine l.command.action
