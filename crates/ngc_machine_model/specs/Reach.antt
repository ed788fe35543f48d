-- The ring's motions as the legs of a ramp: how much work there is to brake, and how far a rate may
-- continue. Our own.
use Rattle.std.specs.Prelude.{ℕ, suc, ◌+◌, ◌-◌, ◌*◌, nat_lt, List, [], ◌∷◌, Bool, false}
use Rattle.std.specs.Prelude.{not, ◌&&◌, if◌then◌else◌}
use Rattle.ngc_commands.specs.declared.command.Action.{Action}
use Rattle.ngc_commands.specs.declared.command.Action.TheVariants.{Move}
use Rattle.ngc_braking.specs.declared.leg.Leg.{Leg}
use Rattle.ngc_braking.specs.Reach as legs
use Rattle.ngc_braking.specs.Work as works
use Rattle.ngc_planner.specs.Bounds.{bound_of}
use Rattle.ngc_planner.specs.Joints.{joint_at, joint_before}
use Rattle.ngc_machine_model.specs.State.{Job, Queued, State, path_steps, millionths, change_of}

-- the axes stop at the end of a motion in exact stop mode (NISTIR 6556, 3.5.14)
abbrev pub stops : Action → Bool
stops (Move m) = m.stop
stops _ = false

-- the axes continue from a loaded command into the next one without a stop if both are motions with
-- path steps
abbrev pub continues_into : Queued → Queued → Bool
continues_into l k =
    nat_lt 0 (path_steps l) && (not (stops l.command.action) && nat_lt 0 (path_steps k))

-- command k as a leg: bound at its ends by its neighbours in the list of commands, loaded or not
abbrev pub leg_of : Job → ℕ → Bool → Queued → Leg
leg_of job k joined l = record {
  millionths = millionths l;
  change = change_of job l;
  bound = bound_of job.machine l.command.action (path_steps l);
  entry = joint_before job.machine job.commands k;
  exit = joint_at job.machine job.commands k;
  joined = joined;
}

-- the legs of the commands loaded after l, the first of which is command k
abbrev pub legs_after : Job → ℕ → Queued → List Queued → List Leg
legs_after job k l [] = []
legs_after job k l (m ∷ ms) =
    if nat_lt 0 (path_steps m) then leg_of job k (continues_into l m) m ∷ legs_after job (suc k) m ms
    else legs_after job (suc k) m ms

-- the rest of the head
abbrev pub rest : Queued → State → ℕ
rest l s = millionths l - s.travelled

-- the work to brake on the rest of the head, and on the motions that are loaded after it, up to the
-- first stop
abbrev pub work_left : Job → Queued → List Queued → State → ℕ
work_left job l ls s =
    change_of job l * rest l s
    + works.work_ahead (change_of job l) (joint_at job.machine job.commands s.done)
    (legs_after job (suc s.done) l ls)

-- whether the rate w of a tick on the head can brake on them
abbrev pub can_brake : Job → ℕ → Queued → List Queued → State → Bool
can_brake job w l ls s =
    works.can_brake w (rest l s) (leg_of job s.done false l) (legs_after job (suc s.done) l ls)

-- ---- in distances, where all motions have one change

-- the distance that is loaded, up to the first stop
abbrev pub reach : Job → Queued → List Queued → State → ℕ
reach job l ls s = legs.reach (rest l s) (legs_after job (suc s.done) l ls)

-- the part of it before the first motion that the rate w may not enter
abbrev pub free : Job → ℕ → Queued → List Queued → State → ℕ
free job w l ls s =
    legs.free w (rest l s) (leg_of job s.done false l) (legs_after job (suc s.done) l ls)
