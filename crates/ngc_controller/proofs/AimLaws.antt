-- The target of the head, and the next point of its path.
use Rattle.std.proofs.Common.{◌≡◌, ℕ, suc, ◌+◌, ◌-◌, ◌*◌, ◌/◌, ◌≤◌, ◌<◌, min, nat_lt, List, [], ◌∷◌, Some, Bool, true, ap, subst, ◌∙◌, arith}
use Rattle.std.proofs.lemmas.Bool.Decides.{nat_tests}
use Rattle.ngc_fixed_length.specs.LinePath.{point}
use Rattle.ngc_fixed_length.specs.Limits.{MILLION}
use Rattle.ngc_fixed_length.specs.declared.points.StepPos.{StepPos}
use Rattle.ngc_machine_files.specs.Machine.{MachineFile}
use Rattle.ngc_planner.specs.ArcFeed.{target_on}
use Rattle.ngc_braking.specs.declared.leg.Leg.{Leg}
use Rattle.ngc_planner.specs.Ramp.{RampState, TicksTo}
use Rattle.ngc_machine_model.specs.State.{Job, Queued, path_steps, millionths}
use Rattle.ngc_machine_model.specs.Reach.{leg_of, legs_after}
use Rattle.ngc_controller.specs.Drive.{IsTarget, legs_of}
use Rattle.ngc_controller.specs.Fields.{travelled_of}
use Rattle.ngc_controller.specs.Loaded.{LoadedData}
use Rattle.ngc_controller.specs.Ring.{IsMoving, HasNext, head_of}
use Rattle.ngc_controller.proofs.LegLaws.{moving_legs, moving_travelled}

-- ---- the target

abbrev Aims : MachineFile → ℕ → ℕ → LoadedData → Type 0
Aims machine percent target head =
    1 ≤ path_steps head.queued →
    target ≡ target_on machine head.queued.command.action (path_steps head.queued) percent (point head.queued.path head.place)

pub aimed : (machine : MachineFile) (percent : ℕ) (loaded : List Queued) (place : ℕ) (head : LoadedData) (n target : ℕ) (p : StepPos) →
    Some head ≡ head_of loaded place → n ≡ path_steps head.queued → p ≡ point head.queued.path head.place →
    target ≡ target_on machine head.queued.command.action n percent p → IsTarget machine percent loaded place target
aimed machine percent [] place head n target p is steps at h = tt
aimed machine percent (l ∷ ls) place head n target p is steps at h =
    let same : head ≡ record { queued = l; place = place } = cc in
    let here : Aims machine percent target head = λ some.
    h ∙ ap (λ k. target_on machine head.queued.command.action k percent p) steps
    ∙ ap (λ q. target_on machine head.queued.command.action (path_steps head.queued) percent q) at in
    subst (Aims machine percent target) same here

-- ---- the next point

step_left : (n t v place : ℕ) (due : Bool) → place ≡ t / MILLION → due ≡ nat_lt (t / MILLION) (min (t + v) (n * MILLION) / MILLION) → due ≡ true → place < n
step_left n t v place due at test is =
    let less : t / MILLION < min (t + v) (n * MILLION) / MILLION = grind (arith, nat_tests) in
    omega (arith, less, at)

pub has_next : (job : Job) (k : ℕ) (ring : List Queued) (place : ℕ) (r s : RampState) (wish v : ℕ) (due ended : Bool) → IsMoving ring →
    (joined : Bool) × (r.legs ≡ legs_of job k joined ring) → place ≡ travelled_of ring r.rest / MILLION →
    ((head : Leg) (legs : List Leg) → r.legs ≡ head ∷ legs → TicksTo r wish head legs v due ended s) → due ≡ true → HasNext ring place
has_next job k [] place r s wish v due ended moves legs at tick is = moves
has_next job k (l ∷ ls) place r s wish v due ended moves legs at tick is =
    let t = tick (leg_of job k legs.0 l) (legs_after job (suc k) l ls) (legs.1 ∙ moving_legs job k legs.0 l ls moves) in
    step_left (path_steps l) (millionths l - r.rest) v place due (at ∙ ap (λ x. x / MILLION) (moving_travelled l ls r.rest moves)) t.tells is
