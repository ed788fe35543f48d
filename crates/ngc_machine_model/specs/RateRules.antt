-- The rules of rates, in millionths of a path step per tick. Our own.
use Rattle.std.specs.Prelude.{◌≡◌, ℕ, ◌+◌, ◌-◌, ◌≤◌, ◌<◌, min, max, ◌==◌, List, [], ◌∷◌, true, None}
use Rattle.std.specs.Prelude.{if◌then◌else◌}
use Rattle.ngc_braking.specs.Braking.{braking}
use Rattle.ngc_braking.specs.Work.{work}
use Rattle.ngc_fixed_length.specs.LinePath.{point}
use Rattle.ngc_machine_files.specs.MachineRanges.{IsMachine}
use Rattle.ngc_planner.specs.ArcFeed.{target_on}
use Rattle.ngc_planner.specs.Bounds.{IsWithinBounds, bound_of}
use Rattle.ngc_planner.specs.Joints.{joint_at, joint_before}
use Rattle.ngc_machine_model.specs.State.{Job, Queued, State, path_steps, millionths, change_of}
use Rattle.ngc_machine_model.specs.State.{place_before, effective}
use Rattle.ngc_machine_model.specs.Reach.{continues_into, work_left, can_brake, reach, free}

-- the axes continue into the next motion, and the rate is within its bounds too
abbrev pub PassesInto : Job → ℕ → Queued → List Queued → Type 0
PassesInto job v l [] = ⊥
PassesInto job v l (k ∷ ks) =
    (continues_into l k ≡ true) × IsWithinBounds job.machine k.command.action (path_steps k) v

-- the rate v of a tick at whose start l is the head
pub record KeepsRateRules (job : Job) (l : Queued) (ls : List Queued) (s : State) (v : ℕ) :
    Type 0 where
  pub faster : v ≤ s.rate + change_of job l
  -- after a joint the rate may fall by the greater of the changes of the two motions
  pub slower : s.rate ≤ v + max (change_of job l) s.change
  pub within : IsWithinBounds job.machine l.command.action (path_steps l) v
  -- the first tick on a motion, and the last
  pub enters : s.travelled ≡ 0 → v ≤ joint_before job.machine job.commands s.done
  pub leaves : millionths l ≤ s.travelled + v → v ≤ joint_at job.machine job.commands s.done
  pub goes_on : millionths l < s.travelled + v → PassesInto job v l ls

-- the target rate at the grid point that the head's path has reached; 0 while the machine is held
abbrev pub target : Job → Queued → State → ℕ
target job l s = if s.held then 0 else
    target_on job.machine l.command.action (path_steps l) (effective s)
    (point l.path (place_before s))

-- in its first tick a motion is also bound by the joint
abbrev pub head_bound : Job → Queued → State → ℕ
head_bound job l s =
    if s.travelled == 0
    then min (bound_of job.machine l.command.action (path_steps l))
    (joint_before job.machine job.commands s.done)
    else bound_of job.machine l.command.action (path_steps l)

-- the least rate of a tick if it can brake from it
abbrev pub pace : Job → Queued → State → ℕ
pace job l s = min (min (s.rate + change_of job l) (target job l s)) (head_bound job l s)

-- the allowed rates of a tick on the head
pub record MayTravel (job : Job) (l : Queued) (ls : List Queued) (s : State) (v : ℕ) : Type 0 where
  pub rules : KeepsRateRules job l ls s v
  pub brakes : work v (change_of job l) ≤ work_left job l ls s
  pub aims : v ≤ max (target job l s) (s.rate - max (change_of job l) s.change)
  pub keeps_pace : can_brake job (pace job l s) l ls s ≡ true → pace job l s ≤ v

-- ---- machines without limits of each axis

-- the same rules in distances: the rate brakes on the loaded path, and it is at least the pace if
-- the path is free for it
pub record BrakesByDistance (job : Job) (l : Queued) (ls : List Queued) (s : State) (v : ℕ) :
    Type 0 where
  pub brakes : braking v job.machine.change ≤ reach job l ls s
  pub keeps_pace : braking (pace job l s) job.machine.change < free job (pace job l s) l ls s →
      pace job l s ≤ v

-- all motions have the machine's change there, and travel by these rules while the head isn't done
abbrev pub AllBrakeByDistance : Type 0
AllBrakeByDistance =
    (job : Job) (l : Queued) (ls : List Queued) (s : State) (v : ℕ) →
    IsMachine job.machine → job.machine.own ≡ None → s.travelled < millionths l →
    MayTravel job l ls s v → BrakesByDistance job l ls s v
