-- A tick on the motion at the head, from the invariant of a controller's fields.
use Rattle.std.proofs.Common.{◌≡◌, ℕ, suc, ◌+◌, ◌-◌, ◌/◌, ◌≤◌, ◌<◌, min, nat_le, List, [], ◌∷◌, length, drop, Option, Some, None, Bool, true, false, cond, refl}
use Rattle.std.proofs.Common.{ap, sym, subst, ◌∙◌, arith}
use Rattle.std.specs.Prelude.{Ok, not, if◌then◌else◌}
use Rattle.std.specs.Bool.{then_some}
use Rattle.std.proofs.lemmas.Bool.{lt-ltb, le-ltb}
use Rattle.std.proofs.lemmas.Bool.Decides.{nat_tests}
use Rattle.ngc_fixed_length.specs.declared.points.StepPos.{StepPos}
use Rattle.ngc_machine_files.specs.MachineRanges.{IsMachine}
use Rattle.ngc_machine_files.specs.declared.tools.Tool.{Tool}
use Rattle.ngc_fixed_length.specs.LinePath.{point}
use Rattle.ngc_planner.specs.ArcFeed.{target_on}
use Rattle.ngc_braking.specs.declared.leg.Leg.{Leg}
use Rattle.ngc_fixed_length.specs.Limits.{MILLION}
use Rattle.ngc_planner.specs.Ramp.{RampState, IsRest, TicksTo, next_rest, after_tick}
use Rattle.ngc_planner.proofs.ComponentLaws.{change_some}
use Rattle.ngc_planner.proofs.RampLaws.{ends_slowly}
use Rattle.ngc_machine_model.specs.State.{Job, Queued, State, path_steps, millionths, change_of, effective}
use Rattle.ngc_machine_model.specs.Reach.{leg_of, legs_after}
use Rattle.ngc_events.specs.declared.reply.Ending.TheVariants.{Done}
use Rattle.ngc_events.specs.declared.reply.Reply.TheVariants.{Ticked}
use Rattle.ngc_controller.specs.declared.drive.Drive.{Drive}
use Rattle.ngc_controller.specs.declared.panel.Panel.{Panel}
use Rattle.ngc_controller.specs.Drive.{legs_of, IsTarget}
use Rattle.ngc_controller.specs.Fields.{travelled_of, state_of, IsInOrder, TravelsOn}
use Rattle.ngc_controller.specs.Loaded.{next_place}
use Rattle.ngc_controller.specs.Ring.{RingData, IsMoving, IsPointOn}
use Rattle.ngc_controller.proofs.LegLaws.{moving_legs, moving_travelled, behind_is, behind_left, none_ahead, travelled_over}
use Rattle.ngc_controller.specs.Panel.{effective_at}
use Rattle.ngc_controller.proofs.OrderLaws.{IsLeft, same_ring, same_drive}
use Rattle.ngc_controller.proofs.TravelLaws.{IsTravel, has_travelled, goes_on, ends_there}

-- what is known of a tick of the ramp r to s, with this ring
pub record IsTravelOn (job : Job) (ring : List Queued) (old : State) (r s : RampState) (wish aimed v place : ℕ) (due ended : Bool) (next : ℕ) (p : StepPos) :
    Type 0 where
  pub machine : IsMachine job.machine
  pub moves : IsMoving ring
  pub legs : (joined : Bool) × (r.legs ≡ legs_of job old.done joined ring)
  pub left : IsRest r.rest r.legs
  pub last : r.last_change ≡ old.change
  pub places : r.room ≡ job.machine.ring
  pub rate : r.rate ≡ old.rate
  pub at : old.travelled ≡ travelled_of ring r.rest
  pub place_at : place ≡ old.travelled / MILLION
  pub aim : wish ≡ (if old.held then 0 else aimed)
  pub target : IsTarget job.machine (effective old) ring place aimed
  pub tick : (head : Leg) (legs : List Leg) → r.legs ≡ head ∷ legs → TicksTo r wish head legs v due ended s
  pub place_next : next ≡ next_place place due
  pub point_at : IsPointOn ring next p

first_leg : (job : Job) (l : Queued) (ls : List Queued) (old : State) (r s : RampState) (wish aimed v place : ℕ) (due ended : Bool) (next : ℕ) (p : StepPos)
    (h : IsTravelOn job (l ∷ ls) old r s wish aimed v place due ended next p) →
    r.legs ≡ leg_of job old.done h.legs.0 l ∷ legs_after job (suc old.done) l ls
first_leg job l ls old r s wish aimed v place due ended next p h = h.legs.1 ∙ moving_legs job old.done h.legs.0 l ls h.moves

travel : (job : Job) (l : Queued) (ls : List Queued) (old : State) (r s : RampState) (wish aimed v place : ℕ) (due ended : Bool) (next : ℕ) (p : StepPos)
    (h : IsTravelOn job (l ∷ ls) old r s wish aimed v place due ended next p) →
    IsTravel job l ls old r s h.legs.0 wish v place due ended next p
travel job l ls old r s wish aimed v place due ended next p h =
    let legs = first_leg job l ls old r s wish aimed v place due ended next p h in
    let left : IsRest r.rest (leg_of job old.done h.legs.0 l ∷ legs_after job (suc old.done) l ls) = subst (λ ks. IsRest r.rest ks) legs h.left in
    record {
      machine = h.machine;
      motion = h.point_at.1;
      moves = h.moves;
      legs = legs;
      last = h.last;
      rate = h.rate;
      some = left.0;
      within = left.1;
      at = h.at ∙ moving_travelled l ls r.rest h.moves;
      place_at = h.place_at;
      aim = h.aim ∙ ap (λ t. if old.held then 0 else t) (h.target h.moves
          ∙ ap (λ k. target_on job.machine l.command.action (path_steps l) (effective old) (point l.path k)) h.place_at);
      tick = h.tick (leg_of job old.done h.legs.0 l) (legs_after job (suc old.done) l ls) legs;
      place_next = h.place_next;
      point_at = h.point_at.0;
    }

-- ---- the ramp after the tick

-- on a leg with the change a
pub record Goes (r s : RampState) (a v : ℕ) : Type 0 where
  pub less : v < r.rest
  pub rate : s.rate ≡ v
  pub rest : s.rest ≡ r.rest - v
  pub legs : s.legs ≡ r.legs
  pub last : s.last_change ≡ a
  pub room : s.room ≡ r.room

pub record Ends (r s : RampState) (afterwards : List Leg) (a v : ℕ) : Type 0 where
  pub all : r.rest ≤ v
  pub rate : s.rate ≡ v
  pub rest : s.rest ≡ next_rest (v - r.rest) afterwards
  pub legs : s.legs ≡ afterwards
  pub last : s.last_change ≡ a
  pub room : s.room ≡ r.room

pub goes : (r s : RampState) (head : Leg) (legs : List Leg) (v : ℕ) (ended : Bool) → ended ≡ nat_le r.rest v → ended ≡ false → s ≡ after_tick r head legs v →
    Goes r s head.change v
goes r s head legs v ended test on e =
    let less : v < r.rest = grind (arith, nat_tests) in
    let ends : RampState = record r { last_change = head.change; rate = v; rest = next_rest (v - r.rest) legs; legs = legs } in
    let whole : s ≡ record r { last_change = head.change; rate = v; rest = r.rest - v } =
    e ∙ ap (λ b. cond b (record r { last_change = head.change; rate = v; rest = r.rest - v }) ends) (lt-ltb v r.rest less) in
    record {
      less = less;
      rate = ap (λ (x : RampState). x.rate) whole;
      rest = ap (λ (x : RampState). x.rest) whole;
      legs = ap (λ (x : RampState). x.legs) whole;
      last = ap (λ (x : RampState). x.last_change) whole;
      room = ap (λ (x : RampState). x.room) whole;
    }

pub ends : (r s : RampState) (head : Leg) (legs : List Leg) (v : ℕ) (ended : Bool) → ended ≡ nat_le r.rest v → ended ≡ true → s ≡ after_tick r head legs v →
    Ends r s legs head.change v
ends r s head legs v ended test done e =
    let all : r.rest ≤ v = grind (arith, nat_tests) in
    let there : RampState = record r { last_change = head.change; rate = v; rest = next_rest (v - r.rest) legs; legs = legs } in
    let whole : s ≡ there = e ∙ ap (λ b. cond b (record r { last_change = head.change; rate = v; rest = r.rest - v }) there) (le-ltb v r.rest all) in
    record {
      all = all;
      rate = ap (λ (x : RampState). x.rate) whole;
      rest = ap (λ (x : RampState). x.rest) whole;
      legs = ap (λ (x : RampState). x.legs) whole;
      last = ap (λ (x : RampState). x.last_change) whole;
      room = ap (λ (x : RampState). x.room) whole;
    }

-- the consequence of a test of the end
pub goes_if : (ended : Bool) → not ended ≡ true → ended ≡ false
goes_if true h = sym h
goes_if false h = refl

pub ends_if : (ended : Bool) → not ended ≡ false → ended ≡ true
ends_if true h = refl
ends_if false h = sym h

-- ---- if the motion continues

pub travel_goes_on : (job : Job) (ring : List Queued) (old new : State) (r s : RampState) (wish aimed v place : ℕ) (due ended : Bool) (next : ℕ) (p : StepPos)
    (t : ℕ) (xs : List Queued) → IsTravelOn job ring old r s wish aimed v place due ended next p →
    ended ≡ false → t ≡ travelled_of xs s.rest → xs ≡ ring → ring ≡ old.ring →
    new ≡ record old { ring = xs; rate = s.rate; change = s.last_change; position = p; travelled = t } →
    TravelsOn job ring old (Ok (Ticked (then_some due p) None)) new
travel_goes_on job [] old new r s wish aimed v place due ended next p t xs h on far queue same is = elim h.moves [ ]
travel_goes_on job (l ∷ ls) old new r s wish aimed v place due ended next p t xs h on far queue same is =
    let k = travel job l ls old r s wish aimed v place due ended next p h in
    let has = has_travelled job l ls old r s h.legs.0 wish v place due ended next p k in
    let g = goes r s (leg_of job old.done h.legs.0 l) (legs_after job (suc old.done) l ls) v ended k.tick.ends on k.tick.next in
    let there : t ≡ millionths l - s.rest = far ∙ ap (λ ys. travelled_of ys s.rest) queue ∙ moving_travelled l ls s.rest h.moves in
    let rate : new.rate ≡ v = ap (λ (x : State). x.rate) is ∙ g.rate in (
      goes_on job l ls old new r v next due p t xs s.rate s.last_change has k.at k.within g.less (omega (arith, there, g.rest, g.less, k.at, k.within))
          (queue ∙ same) g.rate g.last is,
      rw rate has.least,
    )

-- the invariant of the ramp and the ring
place_on : (job : Job) (ring : List Queued) (old : State) (r s : RampState) (wish aimed v place : ℕ) (due ended : Bool) (next : ℕ) (p : StepPos) →
    IsTravelOn job ring old r s wish aimed v place due ended next p → ended ≡ false →
    (next ≡ travelled_of ring s.rest / MILLION) × (s.legs ≡ r.legs) × IsRest s.rest s.legs × (s.room ≡ r.room)
place_on job [] old r s wish aimed v place due ended next p h on = elim h.moves [ ]
place_on job (l ∷ ls) old r s wish aimed v place due ended next p h on =
    let k = travel job l ls old r s wish aimed v place due ended next p h in
    let has = has_travelled job l ls old r s h.legs.0 wish v place due ended next p k in
    let g = goes r s (leg_of job old.done h.legs.0 l) (legs_after job (suc old.done) l ls) v ended k.tick.ends on k.tick.next in
    let there = moving_travelled l ls s.rest h.moves in
    let far : min (old.travelled + v) (millionths l) ≡ travelled_of (l ∷ ls) s.rest = omega (arith, there, g.rest, g.less, k.at, k.within) in (
      has.place ∙ ap (λ x. x / MILLION) far,
      g.legs,
      subst (λ ks. IsRest s.rest ks) (sym (g.legs ∙ k.legs)) (omega (arith, g.rest, g.less), omega (arith, g.rest, k.within)),
      g.room,
    )

pub order_goes_on : {A : Type 0} (job : Job) (done : ℕ) (ring after : RingData) (drive new : Drive A) (dwelt : ℕ) (panel : Panel) (old : State) (s : RampState) (wish v : ℕ)
    (due ended : Bool) (p : StepPos) → IsInOrder job done ring drive dwelt panel →
    IsTravelOn job ring.loaded old drive.ramp s wish drive.target v ring.place due ended after.place p → ended ≡ false → after.loaded ≡ ring.loaded → after.room ≡ ring.room →
    panel.stopped ≡ false → new.ramp ≡ s → new.continues_travel ≡ drive.continues_travel → new.joints ≡ drive.joints →
    IsTarget job.machine (effective_at panel) after.loaded after.place new.target →
    IsInOrder {A = A} job done after new dwelt panel
order_goes_on {A = A} job done ring after drive new dwelt panel old s wish v due ended p o h go queue room runs ramp flows joints target =
    let on = place_on job ring.loaded old drive.ramp s wish drive.target v ring.place due ended after.place p h go in
    let here : IsInOrder {A = A} job done (record { loaded = ring.loaded; place = after.place; room = ring.room })
    (record { ramp = s; target = new.target; joints = drive.joints; continues_travel = drive.continues_travel }) dwelt panel = record {
      machine = o.machine;
      room = o.room;
      places = on.3 ∙ o.places;
      legs = (o.legs.0, on.1 ∙ o.legs.1);
      left = on.2;
      slow = λ still. absurd (still h.moves);
      whole = λ still. absurd (still h.moves);
      joints = o.joints;
      continues_travel = o.continues_travel;
      place = on.0;
      target = subst (λ xs. IsTarget job.machine (effective_at panel) xs after.place new.target) queue target;
      few = o.few;
      brief = o.brief;
      still = λ stopped. cc;
    } in
    rw (same_ring after ring.loaded after.place ring.room queue refl room, same_drive new s drive.continues_travel drive.joints ramp flows joints) here

-- ---- if it ends

-- the change of the head
abbrev pub IsHeadChange : Job → List Queued → ℕ → Type 0
IsHeadChange job [] c = ⊥
IsHeadChange job (l ∷ ls) c = c ≡ change_of job l

pub record EndsOn (job : Job) (done : ℕ) (ring : List Queued) (r s : RampState) (v : ℕ) : Type 0 where
  pub rate : s.rate ≡ v
  pub last : IsHeadChange job ring s.last_change
  pub all : r.rest ≤ v
  pub left : IsLeft job (suc done) (drop 1 ring) s
  pub travelled : travelled_of (drop 1 ring) s.rest ≡ v - r.rest
  pub place : travelled_of (drop 1 ring) s.rest / MILLION ≡ 0
  pub some : 1 ≤ length ring

pub ends_on : (job : Job) (ring : List Queued) (old : State) (r s : RampState) (wish aimed v place : ℕ) (due ended : Bool) (next : ℕ) (p : StepPos) →
    IsTravelOn job ring old r s wish aimed v place due ended next p → ended ≡ true → EndsOn job old.done ring r s v
ends_on job [] old r s wish aimed v place due ended next p h done = elim h.moves [ ]
ends_on job (l ∷ ls) old r s wish aimed v place due ended next p h done =
    let k = travel job l ls old r s wish aimed v place due ended next p h in
    let has = has_travelled job l ls old r s h.legs.0 wish v place due ended next p k in
    let afterwards = legs_after job (suc old.done) l ls in
    let e = ends r s (leg_of job old.done h.legs.0 l) afterwards v ended k.tick.ends done k.tick.next in
    let few : v - r.rest < MILLION = omega (arith, has.small, k.some) in
    let some = change_some job.machine l.command.action (path_steps l) h.machine in
    let b = behind_is job (suc old.done) l ls in
    let rest : s.rest ≡ next_rest (v - r.rest) s.legs = e.rest ∙ ap (λ ks. next_rest (v - r.rest) ks) (sym e.legs) in
    let slows : (IsMoving ls → ⊥) → (v ≡ r.rest) × (v ≤ change_of job l) =
    λ still. ends_slowly r wish (leg_of job old.done h.legs.0 l) afterwards v some k.tick.may (none_ahead job (suc old.done) l ls still) e.all in
    let none : (IsMoving ls → ⊥) → v - r.rest ≡ 0 = λ still. (let slow = slows still in omega (arith, slow.0)) in
    let far = travelled_over job (suc old.done) b.0 ls s (v - r.rest) (e.legs ∙ b.1) rest few none in
    record {
      rate = e.rate;
      last = e.last;
      all = e.all;
      left = record {
        places = e.room ∙ h.places;
        legs = (b.0, e.legs ∙ b.1);
        left = subst (λ ks. IsRest s.rest ks) (sym e.legs) (subst (λ n. IsRest n afterwards) (sym e.rest) (behind_left job (suc old.done) l ls (v - r.rest) few));
        slow = λ still. (let slow = slows still in omega (arith, e.rate, slow.1, e.last));
        whole = λ still. rest ∙ ap (λ n. next_rest n s.legs) (none still);
      };
      travelled = far;
      place = omega (arith, far, few);
      some = omega arith;
    }

pub travel_ends : (job : Job) (ring : List Queued) (old new : State) (r s : RampState) (wish aimed v place : ℕ) (due ended : Bool) (next : ℕ) (p : StepPos)
    (t : ℕ) (xs : List Queued) (w c k d : ℕ) → IsTravelOn job ring old r s wish aimed v place due ended next p →
    EndsOn job old.done ring r s v → t ≡ v - r.rest → xs ≡ drop 1 ring → ring ≡ old.ring → w ≡ s.rate →
    c ≡ s.last_change → k ≡ suc old.done → d ≡ 0 →
    new ≡ record old { done = k; ring = xs; rate = w; change = c; position = p; travelled = t; dwelt = d } →
    TravelsOn job ring old (Ok (Ticked (then_some due p) (Some (Done old.done)))) new
travel_ends job [] old new r s wish aimed v place due ended next p t xs w c k d h e beyond queue same rate change more brief is = elim h.moves [ ]
travel_ends job (l ∷ ls) old new r s wish aimed v place due ended next p t xs w c k d h e beyond queue same rate change more brief is =
    let i = travel job l ls old r s wish aimed v place due ended next p h in
    let has = has_travelled job l ls old r s h.legs.0 wish v place due ended next p i in
    let there : new.rate ≡ v = ap (λ (x : State). x.rate) is ∙ rate ∙ e.rate in (
      ends_there job l ls old new r v next due p t xs w c k d has i.motion i.at i.within e.all beyond (queue ∙ ap (λ ys. drop 1 ys) same)
          (rate ∙ e.rate) (change ∙ e.last) more brief is,
      rw there has.least,
    )

-- ---- from the fields

pub travels_by : {A : Type 0} (job : Job) (done : ℕ) (ring after : RingData) (drive : Drive A) (dwelt : ℕ) (position : StepPos) (tool : Option Tool) (panel : Panel)
    (s : RampState) (wish v : ℕ) (due ended : Bool) (p : StepPos) →
    IsInOrder job done ring drive dwelt panel → IsMoving ring.loaded → wish ≡ (if panel.held then 0 else drive.target) →
    ((head : Leg) (legs : List Leg) → drive.ramp.legs ≡ head ∷ legs → TicksTo drive.ramp wish head legs v due ended s) →
    after.loaded ≡ ring.loaded → after.place ≡ next_place ring.place due → IsPointOn after.loaded after.place p →
    IsTravelOn job ring.loaded (state_of done ring drive dwelt position tool panel) drive.ramp s wish drive.target v ring.place due ended after.place p
travels_by job done ring after drive dwelt position tool panel s wish v due ended p o moves aim tick queue place point = record {
  machine = o.machine;
  moves = moves;
  legs = o.legs;
  left = o.left;
  last = refl;
  places = o.places;
  rate = refl;
  at = refl;
  place_at = o.place;
  aim = aim;
  target = o.target;
  tick = tick;
  place_next = place;
  point_at = subst (λ xs. IsPointOn xs after.place p) queue point;
}
