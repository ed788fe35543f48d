-- A tick on a motion: the ramp's rules imply the machine's.
use Rattle.std.proofs.Common.{◌≡◌, ℕ, suc, ◌+◌, ◌-◌, ◌/◌, ◌≤◌, ◌<◌, min, nat_lt, nat_le, List, ◌∷◌, Option, Some, None, Bool, true, false, cond, refl, ap, ap₂}
use Rattle.std.proofs.Common.{sym, ◌∙◌, drop, arith}
use Rattle.std.proofs.lemmas.Bool.Decides.{nat_tests}
use Rattle.std.specs.Prelude.{Ok, if◌then◌else◌}
use Rattle.std.specs.Bool.{then_some}
use Rattle.ngc_fixed_length.specs.declared.points.StepPos.{StepPos}
use Rattle.ngc_fixed_length.specs.LinePath.{point}
use Rattle.ngc_machine_files.specs.MachineRanges.{IsMachine}
use Rattle.ngc_commands.specs.declared.command.Action.{Action}
use Rattle.ngc_commands.specs.declared.command.Action.TheVariants as actions
use Rattle.ngc_planner.specs.Bounds.{IsMotion}
use Rattle.ngc_fixed_length.specs.Limits.{MILLION}
use Rattle.ngc_planner.specs.Ramp.{RampState, TicksTo}
use Rattle.ngc_machine_model.specs.State.{Job, Queued, State, path_steps, millionths, change_of}
use Rattle.ngc_machine_model.specs.Progress.{TravelsAtLeast}
use Rattle.ngc_machine_model.specs.RateRules.{target, MayTravel}
use Rattle.ngc_machine_model.specs.Reach.{leg_of, legs_after}
use Rattle.ngc_events.specs.declared.reply.Ending.{Ending}
use Rattle.ngc_events.specs.declared.reply.Ending.TheVariants.{Done}
use Rattle.ngc_events.specs.declared.reply.Reply.TheVariants.{Ticked}
use Rattle.ngc_machine_model.specs.Step.{Outcome, Travels, place_after, pulse, ends_at, ending, moved_by, without_head}
use Rattle.ngc_machine_model.proofs.RampFit.{may_travel, travels_at_least}
use Rattle.ngc_controller.specs.Loaded.{next_place}

-- ---- the position on the path

pub place_is : (t v m place : ℕ) (due : Bool) → place ≡ t / MILLION → t ≤ m → v ≤ MILLION → due ≡ nat_lt (t / MILLION) (min (t + v) m / MILLION) →
    next_place place due ≡ min (t + v) m / MILLION
place_is t v m place true at within small test =
    let less : t / MILLION < min (t + v) m / MILLION = grind (arith, nat_tests) in
    omega arith
place_is t v m place false at within small test =
    let less : min (t + v) m / MILLION ≤ t / MILLION = grind (arith, nat_tests) in
    omega arith

pub pulse_is : (p q : StepPos) (due test : Bool) → due ≡ test → p ≡ q → then_some due p ≡ cond test (Some q) None
pulse_is p q true true same at = ap (λ x. Some x) at
pulse_is p q false false same at = refl
pulse_is p q true false same at = cc
pulse_is p q false true same at = cc

-- ---- the state after a tick

rate_by : (b : Bool) (s t : State) (v : ℕ) → s.rate ≡ v → t.rate ≡ v → (if b then s else t).rate ≡ v
rate_by true s t v e f = e
rate_by false s t v e f = f

rate_moved : (job : Job) (l : Queued) (old : State) (v : ℕ) → (moved_by job l old v).rate ≡ v
rate_moved job l old v = rate_by (nat_le (millionths l) (old.travelled + v)) _ _ v refl refl

pub travels_to : (job : Job) (l : Queued) (ls : List Queued) (old new : State) (outcome : Outcome) (v : ℕ) → MayTravel job l ls old v → new ≡ moved_by job l old v →
    outcome ≡ Ok (Ticked (pulse l old v) (ends_at l old v)) → Travels job l ls old outcome new
travels_to job l ls old new outcome v may e says =
    let rate : new.rate ≡ v = ap (λ (s : State). s.rate) e ∙ rate_moved job l old v in
    record {
      may = rw rate may;
      says = rw rate says;
      goes_on = e ∙ ap (λ w. moved_by job l old w) (sym rate);
    }

-- the end of a motion is `Done`
pub motion_done : (a : Action) (s : State) → IsMotion a → ending a s ≡ Done s.done
motion_done (actions.Move m) s moves = refl
motion_done _ s moves = let h = moves.1 in cc

going : (b : Bool) (s t : State) (e : Option Ending) → b ≡ false → ((if b then s else t) ≡ t) × ((if b then e else None) ≡ None)
going true s t e h = (cc, cc)
going false s t e h = (refl, refl)

done_with : (b : Bool) (s t : State) (e : Option Ending) → b ≡ true → ((if b then s else t) ≡ s) × ((if b then e else None) ≡ e)
done_with true s t e h = (refl, refl)
done_with false s t e h = (cc, cc)

-- ---- the whole tick

-- what is known of a tick of the ramp from r to s, with the head l and the others after it
pub record IsTravel (job : Job) (l : Queued) (ls : List Queued) (old : State) (r s : RampState) (joined : Bool) (wish v place : ℕ) (due ended : Bool) (next : ℕ)
    (p : StepPos) : Type 0 where
  pub machine : IsMachine job.machine
  pub motion : IsMotion l.command.action
  pub moves : 1 ≤ path_steps l
  pub legs : r.legs ≡ leg_of job old.done joined l ∷ legs_after job (suc old.done) l ls
  pub last : r.last_change ≡ old.change
  pub rate : r.rate ≡ old.rate
  pub some : 1 ≤ r.rest
  pub within : r.rest ≤ millionths l
  pub at : old.travelled ≡ millionths l - r.rest
  pub place_at : place ≡ old.travelled / MILLION
  pub aim : wish ≡ target job l old
  pub tick : TicksTo r wish (leg_of job old.done joined l) (legs_after job (suc old.done) l ls) v due ended s
  pub place_next : next ≡ next_place place due
  pub point_at : p ≡ point l.path next

-- the consequences
pub record HasTravelled (job : Job) (l : Queued) (ls : List Queued) (old : State) (v next : ℕ) (due : Bool) (p : StepPos) : Type 0 where
  pub may : MayTravel job l ls old v
  pub least : TravelsAtLeast job (l ∷ ls) old v
  pub small : v ≤ MILLION
  pub place : next ≡ place_after l old v
  pub point_at : p ≡ point l.path (place_after l old v)
  pub says : then_some due p ≡ pulse l old v

same_due : (leg_whole rest t v : ℕ) (due : Bool) → t ≡ leg_whole - rest →
    due ≡ nat_lt ((leg_whole - rest) / MILLION) (min (leg_whole - rest + v) leg_whole / MILLION) → due ≡ nat_lt (t / MILLION) (min (t + v) leg_whole / MILLION)
same_due w rest t v due e h = rw e h

pub has_travelled : (job : Job) (l : Queued) (ls : List Queued) (old : State) (r s : RampState) (joined : Bool) (wish v place : ℕ) (due ended : Bool) (next : ℕ)
    (p : StepPos) → IsTravel job l ls old r s joined wish v place due ended next p → HasTravelled job l ls old v next due p
has_travelled job l ls old r s joined wish v place due ended next p h =
    let left : r.rest ≡ millionths l - old.travelled = omega (arith, h.at, h.within) in
    let within : old.travelled ≤ millionths l = omega (arith, h.at) in
    let may = may_travel job l ls old r joined wish v h.machine h.moves h.last h.rate left h.some within h.aim h.tick.may in
    let small : v ≤ MILLION = omega (arith, may.rules.within.greatest, h.machine.max_rate.greatest) in
    let told = same_due (millionths l) r.rest old.travelled v due h.at h.tick.tells in
    let there : next ≡ place_after l old v = h.place_next ∙ place_is old.travelled v (millionths l) place due h.place_at within small told in
    let point_at : p ≡ point l.path (place_after l old v) = h.point_at ∙ ap (λ k. point l.path k) there in
    record {
      may = may;
      least = travels_at_least job l ls old r joined wish v h.machine h.motion h.moves h.rate left within h.aim h.tick.may;
      small = small;
      place = there;
      point_at = point_at;
      says = pulse_is p (point l.path (place_after l old v)) due (nat_lt (old.travelled / MILLION) (place_after l old v)) told point_at;
    }

-- the motion continues
pub goes_on : (job : Job) (l : Queued) (ls : List Queued) (old new : State) (r : RampState) (v next : ℕ) (due : Bool) (p : StepPos) (t : ℕ) (xs : List Queued)
    (w c : ℕ) → HasTravelled job l ls old v next due p →
    old.travelled ≡ millionths l - r.rest → r.rest ≤ millionths l → v < r.rest → t ≡ old.travelled + v → xs ≡ old.ring → w ≡ v → c ≡ change_of job l →
    new ≡ record old { ring = xs; rate = w; change = c; position = p; travelled = t } →
    Travels job l ls old (Ok (Ticked (then_some due p) None)) new
goes_on job l ls old new r v next due p t xs w c h at within less far same rate change is =
    let on : nat_le (millionths l) (old.travelled + v) ≡ false = grind (arith, nat_tests) in
    let place = point l.path (place_after l old v) in
    let there : State = record old { rate = v; change = change_of job l; position = place } in
    let by = going (nat_le (millionths l) (old.travelled + v)) (without_head (old.travelled + v - millionths l) there)
    (record there { travelled = old.travelled + v }) (Some (ending l.command.action old)) on in
    let state : new ≡ record there { travelled = old.travelled + v } =
    is ∙ ap (λ (ys : List Queued). record old { ring = ys; rate = w; change = c; position = p; travelled = t }) same
    ∙ ap (λ (x : ℕ). record old { rate = x; change = c; position = p; travelled = t }) rate
    ∙ ap (λ (x : ℕ). record old { rate = v; change = x; position = p; travelled = t }) change
    ∙ ap (λ (q : StepPos). record old { rate = v; change = change_of job l; position = q; travelled = t }) h.point_at
    ∙ ap (λ (x : ℕ). record old { rate = v; change = change_of job l; position = place; travelled = x }) far in
    travels_to job l ls old new (Ok (Ticked (then_some due p) None)) v h.may (state ∙ sym by.0) (ap₂ (λ a b. Ok (Ticked a b)) h.says (sym by.1))

-- the motion ends
pub ends_there : (job : Job) (l : Queued) (ls : List Queued) (old new : State) (r : RampState) (v next : ℕ) (due : Bool) (p : StepPos) (t : ℕ)
    (xs : List Queued) (w c k d : ℕ) → HasTravelled job l ls old v next due p →
    IsMotion l.command.action → old.travelled ≡ millionths l - r.rest → r.rest ≤ millionths l → r.rest ≤ v → t ≡ v - r.rest → xs ≡ drop 1 old.ring → w ≡ v →
    c ≡ change_of job l → k ≡ suc old.done → d ≡ 0 →
    new ≡ record old { done = k; ring = xs; rate = w; change = c; position = p; travelled = t; dwelt = d } →
    Travels job l ls old (Ok (Ticked (then_some due p) (Some (Done old.done)))) new
ends_there job l ls old new r v next due p t xs w c k d h motion at within ends beyond same rate change more brief is =
    let over : nat_le (millionths l) (old.travelled + v) ≡ true = grind (arith, nat_tests) in
    let place = point l.path (place_after l old v) in
    let there : State = record old { rate = v; change = change_of job l; position = place } in
    let left : t ≡ old.travelled + v - millionths l = omega arith in
    let by = done_with (nat_le (millionths l) (old.travelled + v)) (without_head (old.travelled + v - millionths l) there)
    (record there { travelled = old.travelled + v }) (Some (ending l.command.action old)) over in
    let state : new ≡ without_head (old.travelled + v - millionths l) there =
    is ∙ ap (λ (ys : List Queued). record old { done = k; ring = ys; rate = w; change = c; position = p; travelled = t; dwelt = d }) same
    ∙ ap (λ (x : ℕ). record old { done = k; ring = drop 1 old.ring; rate = x; change = c; position = p; travelled = t; dwelt = d }) rate
    ∙ ap (λ (x : ℕ). record old { done = k; ring = drop 1 old.ring; rate = v; change = x; position = p; travelled = t; dwelt = d }) change
    ∙ ap (λ (q : StepPos). record there { done = k; ring = drop 1 old.ring; position = q; travelled = t; dwelt = d }) h.point_at
    ∙ ap (λ (x : ℕ). record there { done = k; ring = drop 1 old.ring; travelled = x; dwelt = d }) left
    ∙ ap (λ (x : ℕ). record there { done = x; ring = drop 1 old.ring; travelled = old.travelled + v - millionths l; dwelt = d }) more
    ∙ ap (λ (x : ℕ). record there {
      done = suc old.done;
      ring = drop 1 old.ring;
      travelled = old.travelled + v - millionths l;
      dwelt = x;
    }) brief in
    travels_to job l ls old new (Ok (Ticked (then_some due p) (Some (Done old.done)))) v h.may (state ∙ sym by.0)
    (ap₂ (λ a b. Ok (Ticked a b)) h.says (sym (by.1 ∙ ap (λ e. Some e) (motion_done l.command.action old motion))))
