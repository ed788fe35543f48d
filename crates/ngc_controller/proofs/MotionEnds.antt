-- Ticks on the motion at the head: those of the ramp are those of the machine.
use Rattle.std.proofs.Common.{◌≡◌, ℕ, zero, suc, ◌+◌, ◌-◌, ◌*◌, ◌/◌, ◌≤◌, ◌<◌, min, nat_lt, List, [], ◌∷◌, length, drop, Option, Some, None, Bool, true, false, cond, refl, ap, ap₂}
use Rattle.std.proofs.Common.{sym, subst, ◌∙◌, MatchBool, arith}
use Rattle.std.specs.Prelude.{Ok, replicate, not, ◌&&◌, if◌then◌else◌}
use Rattle.std.specs.Bool.{then_some}
use Rattle.std.specs.List.{AllByRecursion}
use Rattle.std.proofs.lemmas.Bool.{lt-ltb, ltb-true}
use Rattle.ngc_fixed_length.specs.Limits.{MILLION}
use Rattle.ngc_fixed_length.specs.LinePath.{point}
use Rattle.ngc_fixed_length.specs.declared.points.StepPos.{StepPos}
use Rattle.ngc_machine_files.specs.MachineRanges.{IsMachine}
use Rattle.ngc_machine_files.specs.declared.tools.Tool.{Tool}
use Rattle.ngc_planner.specs.ArcFeed.{target_on, is_by_place}
use Rattle.ngc_planner.specs.Bounds.{IsMotion, target_at}
use Rattle.ngc_braking.specs.declared.leg.Leg.{Leg}
use Rattle.ngc_planner.specs.Ramp.{RampState, IsRest, TicksTo, next_rest}
use Rattle.ngc_planner.specs.Stretches.{TicksFrom, Ticks}
use Rattle.ngc_planner.proofs.ArcFeedLaws.{same_elsewhere}
use Rattle.ngc_planner.proofs.BoundLaws.{target_some}
use Rattle.ngc_events.specs.declared.event.Event.TheVariants.{Tick}
use Rattle.ngc_events.specs.declared.reply.Ending.TheVariants.{Done}
use Rattle.ngc_events.specs.declared.reply.Reply.TheVariants.{Ticked}
use Rattle.ngc_machine_model.specs.State.{Job, Queued, State, path_steps, millionths, change_of, place_before, effective}
use Rattle.ngc_machine_model.specs.Progress.{TravelsAtLeast, GoesOn, is_free}
use Rattle.ngc_machine_model.specs.Reach.{leg_of, legs_after}
use Rattle.ngc_machine_model.specs.Run.{positions}
use Rattle.ngc_machine_model.specs.Step.{Outcome, Travels, Serves, Rests, HeadTick, TickBy, Step, MayTake, place_after}
use Rattle.ngc_machine_model.specs.Stretch.{Stretch}
use Rattle.ngc_controller.specs.declared.drive.Drive.{Drive}
use Rattle.ngc_controller.specs.declared.panel.Panel.{Panel}
use Rattle.ngc_controller.specs.Drive.{legs_of, IsTarget, is_head_by_place}
use Rattle.ngc_controller.specs.Fields.{travelled_of, state_of, IsInOrder, TravelsOn}
use Rattle.ngc_controller.specs.Finishing.{EndsBy, EndsLeg, StaysOnHead, FinishesMotion, TakePaths}
use Rattle.ngc_controller.specs.Loaded.{LoadedData, next_place}
use Rattle.ngc_controller.specs.Panel.{effective_at}
use Rattle.ngc_controller.specs.Ring.{RingData, IsMoving, IsPointOn, head_of}
use Rattle.ngc_controller.proofs.LegLaws.{moving_legs, moving_travelled}
use Rattle.ngc_controller.proofs.OrderLaws.{IsLeft}
use Rattle.ngc_controller.proofs.TravelLaws.{IsTravel, HasTravelled, has_travelled, goes_on}
use Rattle.ngc_controller.proofs.HeadLaws.{Goes, Ends, ends, IsTravelOn, EndsOn, ends_on, travel_ends}
use Rattle.ngc_controller.proofs.LegEnds.{ticks_shorter, tick_stays}

-- ---- one tick

-- what is known of a ramp that is on the motion at the head
pub record IsOnLeg (job : Job) (l : Queued) (ls : List Queued) (s : State) (r : RampState) (joined : Bool) (wish : ℕ) : Type 0 where
  pub machine : IsMachine job.machine
  pub motion : IsMotion l.command.action
  pub moves : 1 ≤ path_steps l
  pub runs : s.stopped ≡ false
  pub ring : s.ring ≡ l ∷ ls
  pub legs : r.legs ≡ leg_of job s.done joined l ∷ legs_after job (suc s.done) l ls
  pub last : r.last_change ≡ s.change
  pub room : r.room ≡ job.machine.ring
  pub rate : r.rate ≡ s.rate
  pub some : 1 ≤ r.rest
  pub within : r.rest ≤ millionths l
  pub at : s.travelled ≡ millionths l - r.rest
  pub aim : (p : StepPos) → wish ≡ (if s.held then 0 else target_on job.machine l.command.action (path_steps l) (effective s) p)

on_travel : (job : Job) (l : Queued) (ls : List Queued) (s : State) (r q : RampState) (joined : Bool) (wish v : ℕ) (due ended : Bool) →
    IsOnLeg job l ls s r joined wish → TicksTo r wish (leg_of job s.done joined l) (legs_after job (suc s.done) l ls) v due ended q →
    IsTravel job l ls s r q joined wish v (place_before s) due ended (next_place (place_before s) due) (point l.path (next_place (place_before s) due))
on_travel job l ls s r q joined wish v due ended h t = record {
  machine = h.machine;
  motion = h.motion;
  moves = h.moves;
  legs = h.legs;
  last = h.last;
  rate = h.rate;
  some = h.some;
  within = h.within;
  at = h.at;
  place_at = refl;
  aim = h.aim (point l.path (place_before s));
  tick = t;
  place_next = refl;
  point_at = refl;
}

pub travel_step : (job : Job) (l : Queued) (ls : List Queued) (s new : State) (o : Outcome) → Travels job l ls s o new → 1 ≤ path_steps l → s.stopped ≡ false →
    s.ring ≡ l ∷ ls → Step job s Tick o new
travel_step job l ls s new o travels moves runs ring =
    let head : HeadTick job l ls s o new = subst (λ b. MatchBool b (Travels job l ls s o new) (MatchBool s.held (Rests s o new) (Serves job l.command.action s o new)))
    (sym (lt-ltb 0 (path_steps l) moves)) travels in
    subst (λ b. TickBy job b s.ring s o new) (sym runs) (subst (λ xs. TickBy job false xs s o new) (sym ring) head)

-- the state after it, if the motion continues
abbrev pub gone : Job → Queued → State → ℕ → Bool → State
gone job l s v due = record s {
  travelled = s.travelled + v;
  rate = v;
  change = change_of job l;
  position = point l.path (next_place (place_before s) due);
}

abbrev pub told : Queued → State → Bool → Outcome
told l s due = Ok (Ticked (then_some due (point l.path (next_place (place_before s) due))) None)

record HasTicked (job : Job) (l : Queued) (ls : List Queued) (s : State) (q : RampState) (joined : Bool) (wish v : ℕ) (due : Bool) : Type 0 where
  step : Step job s Tick (told l s due) (gone job l s v due)
  goes_on : GoesOn job s Tick (gone job l s v due)
  on : IsOnLeg job l ls (gone job l s v due) q joined wish
  place : place_before (gone job l s v due) ≡ next_place (place_before s) due

one_tick : (job : Job) (l : Queued) (ls : List Queued) (s : State) (r q : RampState) (joined : Bool) (wish v : ℕ) (due : Bool) → IsOnLeg job l ls s r joined wish →
    TicksTo r wish (leg_of job s.done joined l) (legs_after job (suc s.done) l ls) v due false q → Goes r q (change_of job l) v → HasTicked job l ls s q joined wish v due
one_tick job l ls s r q joined wish v due h t g =
    let next = next_place (place_before s) due in
    let p = point l.path next in
    let k = on_travel job l ls s r q joined wish v due false h t in
    let has = has_travelled job l ls s r q joined wish v (place_before s) due false next p k in
    let travels : Travels job l ls s (told l s due) (gone job l s v due) =
    goes_on job l ls s (gone job l s v due) r v next due p (s.travelled + v) s.ring v (change_of job l) has h.at h.within g.less refl refl refl refl refl in
    let whole : min (s.travelled + v) (millionths l) ≡ s.travelled + v = omega (arith, h.at, h.within, g.less) in
    record {
      step = travel_step job l ls s (gone job l s v due) (told l s due) travels h.moves h.runs h.ring;
      goes_on = subst (λ xs. TravelsAtLeast job xs s v) (sym h.ring) has.least;
      on = record {
        machine = h.machine;
        motion = h.motion;
        moves = h.moves;
        runs = h.runs;
        ring = h.ring;
        legs = g.legs ∙ h.legs;
        last = g.last;
        room = g.room ∙ h.room;
        rate = g.rate;
        some = omega (arith, g.rest, g.less);
        within = omega (arith, g.rest, h.within);
        at = omega (arith, g.rest, g.less, h.at, h.within);
        aim = h.aim;
      };
      place = ap (λ x. x / MILLION) (sym whole) ∙ sym has.place;
    }

-- ---- several ticks

stay_both : (s t u : State) → StaysOnHead s t → StaysOnHead t u → StaysOnHead s u
stay_both s t u h k = k ∙ ap (λ (x : State). record x { travelled = u.travelled; rate = u.rate; change = u.change; position = u.position }) h

all_stay : (s t : State) (xs : List State) → StaysOnHead s t → AllByRecursion (StaysOnHead t) xs → AllByRecursion (StaysOnHead s) xs
all_stay s t [] h k = tt
all_stay s t (x ∷ xs) h k = (stay_both s t x h k.0, all_stay s t xs h k.1)

one_pulse : (due : Bool) (p : StepPos) (os : List Outcome) (k : ℕ) →
    length (positions (Ok (Ticked (then_some due p) None) ∷ os)) + k ≡ length (positions os) + next_place k due
one_pulse true p os k = omega arith
one_pulse false p os k = omega arith

-- n ticks of the ramp from r to q
pub record HasStayed (n : ℕ) (job : Job) (l : Queued) (ls : List Queued) (s : State) (q : RampState) (joined : Bool) (wish : ℕ) : Type 0 where
  pub state : State
  pub outcomes : List Outcome
  pub goes : Stretch job s state (replicate n Tick) outcomes
  pub stays : AllByRecursion (StaysOnHead s) goes.states
  pub here : StaysOnHead s state
  pub on : IsOnLeg job l ls state q joined wish
  pub pulses : length (positions outcomes) + place_before s ≡ place_before state

pub stayed : (n : ℕ) (job : Job) (l : Queued) (ls : List Queued) (s : State) (r q : RampState) (joined : Bool) (wish : ℕ) → IsOnLeg job l ls s r joined wish →
    Ticks n r wish q → q.legs ≡ r.legs → HasStayed n job l ls s q joined wish
stayed zero job l ls s r q joined wish h t same = record {
  state = s;
  outcomes = [];
  goes = record { states = []; runs = tt; goes_on = tt; last = refl };
  stays = tt;
  here = refl;
  on = subst (λ x. IsOnLeg job l ls s x joined wish) (sym t) h;
  pulses = omega arith;
}
stayed (suc n) job l ls s r q joined wish h t same =
    let mid = t.0 in
    let leg = leg_of job s.done joined l in
    let legs = legs_after job (suc s.done) l ls in
    let first : TicksFrom (leg ∷ legs) r wish mid = subst (λ xs. TicksFrom xs r wish mid) h.legs t.1 in
    let v = first.0 in
    let due = first.1 in
    let long = ticks_shorter n mid wish q t.2 in
    let g = tick_stays r mid wish v due first.2 leg legs h.legs first.3 (omega (arith, long, ap length same)) in
    let tick : TicksTo r wish leg legs v due false mid = subst (λ b. TicksTo r wish leg legs v due b mid) g.0 first.3 in
    let one = one_tick job l ls s r mid joined wish v due h tick g.1 in
    let after = gone job l s v due in
    let more = stayed n job l ls after mid q joined wish one.on t.2 (same ∙ sym g.1.legs) in
    record {
      state = more.state;
      outcomes = told l s due ∷ more.outcomes;
      goes = record { states = after ∷ more.goes.states; runs = (one.step, more.goes.runs); goes_on = (one.goes_on, more.goes.goes_on); last = more.goes.last };
      stays = (refl, all_stay s after more.goes.states refl more.stays);
      here = stay_both s after more.state refl more.here;
      on = more.on;
      pulses = one_pulse due (point l.path (next_place (place_before s) due)) more.outcomes (place_before s)
          ∙ ap (λ k. length (positions more.outcomes) + k) (sym one.place) ∙ more.pulses;
    }

-- ---- the tick in which the motion ends

same_head : (a b : Leg) (xs ys : List Leg) → a ∷ xs ≡ b ∷ ys → a ≡ b
same_head a b xs ys e = cc

same_tail : (a b : Leg) (xs ys : List Leg) → a ∷ xs ≡ b ∷ ys → xs ≡ ys
same_tail a b xs ys e = cc

last_due : (place n : ℕ) (due : Bool) → next_place place due ≡ n → place < n → due ≡ true
last_due place n true e less = refl
last_due place n false e less = absurd (omega (arith, e, less))

-- what the ticks of the ramp from r to q leave, the last of which ends the motion at the head
pub record Passes (job : Job) (ring : List Queued) (s : State) (q : RampState) (n : ℕ) : Type 0 where
  pub left : IsLeft job (suc s.done) (drop 1 ring) q
  pub zero : travelled_of (drop 1 ring) q.rest / MILLION ≡ 0
  pub some : 1 ≤ length ring
  pub finishes : (head : LoadedData) (new : State) (p : StepPos) (place steps t : ℕ) (xs : List Queued) (w c k d : ℕ) → Some head ≡ head_of ring place →
      place ≡ place_before s → head.place + steps ≡ path_steps head.queued → p ≡ point head.queued.path (path_steps head.queued) →
      t ≡ travelled_of xs q.rest → xs ≡ drop 1 ring → w ≡ q.rate → c ≡ q.last_change → k ≡ suc s.done → d ≡ 0 →
      new ≡ record s { done = k; ring = xs; rate = w; change = c; position = p; travelled = t; dwelt = d } → FinishesMotion n steps job s new

-- the ramp's last tick
abbrev aimed_in : Job → Queued → State → ℕ
aimed_in job l s = target_on job.machine l.command.action (path_steps l) (effective s) (point l.path (place_before s))

last_travel : (job : Job) (l : Queued) (ls : List Queued) (s : State) (r q : RampState) (joined : Bool) (wish v : ℕ) (due : Bool) → IsOnLeg job l ls s r joined wish →
    TicksTo r wish (leg_of job s.done joined l) (legs_after job (suc s.done) l ls) v due true q →
    IsTravelOn job (l ∷ ls) s r q wish (aimed_in job l s) v (place_before s) due true (next_place (place_before s) due)
    (point l.path (next_place (place_before s) due))
last_travel job l ls s r q joined wish v due on t =
    let leg = leg_of job s.done joined l in
    let legs = legs_after job (suc s.done) l ls in
    record {
      machine = on.machine;
      moves = on.moves;
      legs = (joined, on.legs ∙ sym (moving_legs job s.done joined l ls on.moves));
      left = subst (λ ks. IsRest r.rest ks) (sym on.legs) (on.some, on.within);
      last = on.last;
      places = on.room;
      rate = on.rate;
      at = on.at ∙ sym (moving_travelled l ls r.rest on.moves);
      place_at = refl;
      aim = on.aim (point l.path (place_before s));
      target = λ some. refl;
      tick = λ head others e.
          (let same : leg ∷ legs ≡ head ∷ others = sym on.legs ∙ e in
          subst (λ a. TicksTo r wish a others v due true q) (same_head leg head legs others same)
          (subst (λ xs. TicksTo r wish leg xs v due true q) (same_tail leg head legs others same) t));
      place_next = refl;
      point_at = (refl, on.motion);
    }

pub record IsLast (job : Job) (l : Queued) (ls : List Queued) (s : State) (q : RampState) (v : ℕ) (due : Bool) : Type 0 where
  pub is_due : due ≡ true
  pub place : place_before s + 1 ≡ path_steps l
  pub left : IsLeft job (suc s.done) ls q
  pub zero : travelled_of ls q.rest / MILLION ≡ 0
  pub ends : (new : State) (p : StepPos) (t : ℕ) (xs : List Queued) (w c k d : ℕ) → p ≡ point l.path (path_steps l) →
      t ≡ travelled_of xs q.rest → xs ≡ ls → w ≡ q.rate → c ≡ q.last_change → k ≡ suc s.done → d ≡ 0 →
      new ≡ record s { done = k; ring = xs; rate = w; change = c; position = p; travelled = t; dwelt = d } →
      Travels job l ls s (Ok (Ticked (Some p) (Some (Done s.done)))) new × TravelsAtLeast job (l ∷ ls) s new.rate

last_tick : (job : Job) (l : Queued) (ls : List Queued) (s : State) (r q : RampState) (joined : Bool) (wish v : ℕ) (due : Bool) → IsOnLeg job l ls s r joined wish →
    TicksTo r wish (leg_of job s.done joined l) (legs_after job (suc s.done) l ls) v due true q → IsLast job l ls s q v due
last_tick job l ls s r q joined wish v due on t =
    let place = place_before s in
    let next = next_place place due in
    let h = last_travel job l ls s r q joined wish v due on t in
    let e = ends_on job (l ∷ ls) s r q wish (aimed_in job l s) v place due true next (point l.path next) h refl in
    let k = on_travel job l ls s r q joined wish v due true on t in
    let has = has_travelled job l ls s r q joined wish v place due true next (point l.path next) k in
    let whole : min (s.travelled + v) (millionths l) ≡ path_steps l * MILLION = omega (arith, on.at, on.within, e.all) in
    let far : min (s.travelled + v) (millionths l) / MILLION ≡ path_steps l = omega (arith, whole) in
    let reached : next ≡ path_steps l = has.place ∙ far in
    let less : place < path_steps l = omega (arith, on.at, on.some, on.within) in
    let is_due = last_due place (path_steps l) due reached less in
    record {
      is_due = is_due;
      place = sym (ap (λ b. next_place place b) is_due) ∙ reached;
      left = e.left;
      zero = e.place;
      ends = λ new p t xs w c k d at far queue rate change more brief is.
          (let same : p ≡ point l.path next = at ∙ ap (λ i. point l.path i) (sym reached) in
          let there : new ≡ record s { done = k; ring = xs; rate = w; change = c; position = point l.path next; travelled = t; dwelt = d } =
          is ∙ ap (λ (x : StepPos). record s { done = k; ring = xs; rate = w; change = c; position = x; travelled = t; dwelt = d }) same in
          let beyond : t ≡ v - r.rest = far ∙ ap (λ ys. travelled_of ys q.rest) queue ∙ e.travelled in
          let travels = travel_ends job (l ∷ ls) s new r q wish (aimed_in job l s) v place due true next (point l.path next) t xs w c k d h e beyond queue (sym on.ring) rate
          change more brief there in
          let says : then_some due (point l.path next) ≡ Some p = ap (λ b. then_some b (point l.path next)) is_due ∙ ap (λ x. Some x) (sym same) in
          (subst (λ x. Travels job l ls s (Ok (Ticked x (Some (Done s.done)))) new) says travels.0, travels.1));
    }

-- ---- from the first tick to the last

steps_are : (pulses first last place steps all : ℕ) → place ≡ first → place + steps ≡ all → pulses + first ≡ last → last + 1 ≡ all → steps ≡ suc pulses
steps_are pulses first last place steps all e f g h = omega (arith, e, f, g, h)

leaves_as : (s new : State) (p : StepPos) (t : ℕ) (xs : List Queued) (w c k d : ℕ) → k ≡ suc s.done → xs ≡ drop 1 s.ring → d ≡ 0 →
    new ≡ record s { done = k; ring = xs; rate = w; change = c; position = p; travelled = t; dwelt = d } →
    new ≡ record s {
      done = suc s.done;
      ring = drop 1 s.ring;
      travelled = new.travelled;
      dwelt = 0;
      rate = new.rate;
      change = new.change;
      position = new.position;
    }
leaves_as s new p t xs w c k d more queue brief is =
    subst (λ (x : State). x ≡ record s {
      done = suc s.done;
      ring = drop 1 s.ring;
      travelled = x.travelled;
      dwelt = 0;
      rate = x.rate;
      change = x.change;
      position = x.position;
    }) (sym is)
    (ap (λ (x : ℕ). record s { done = x; ring = xs; rate = w; change = c; position = p; travelled = t; dwelt = d }) more
    ∙ ap (λ (ys : List Queued). record s { done = suc s.done; ring = ys; rate = w; change = c; position = p; travelled = t; dwelt = d }) queue
    ∙ ap (λ (x : ℕ). record s { done = suc s.done; ring = drop 1 s.ring; rate = w; change = c; position = p; travelled = t; dwelt = x }) brief)

passes_leg : (job : Job) (l : Queued) (ls : List Queued) (s : State) (r q : RampState) (joined : Bool) (wish n : ℕ) → IsOnLeg job l ls s r joined wish →
    EndsLeg n r wish q → Passes job (l ∷ ls) s q n
passes_leg job l ls s r q joined wish n h e =
    let st = stayed e.before job l ls s r e.mid joined wish h e.ticks e.same in
    let mid = st.state in
    let leg = leg_of job mid.done joined l in
    let legs = legs_after job (suc mid.done) l ls in
    let ended : EndsBy (leg ∷ legs) e.mid wish q = subst (λ xs. EndsBy xs e.mid wish q) st.on.legs e.last in
    let z = last_tick job l ls mid e.mid q joined wish ended.0 ended.1 st.on ended.2 in
    let same : mid.done ≡ s.done = ap (λ (x : State). x.done) st.here in
    record {
      left = subst (λ k. IsLeft job (suc k) ls q) same z.left;
      zero = z.zero;
      some = omega arith;
      finishes = λ head new p place steps t xs w c k d is_head at way end far queue rate change more brief is.
          (let last_place = z.place in
          let of : head ≡ record { queued = l; place = place } = cc in
          let there : p ≡ point l.path (path_steps l) = end ∙ ap (λ (x : LoadedData). point x.queued.path (path_steps x.queued)) of in
          let left : place + steps ≡ path_steps l = sym (ap (λ (x : LoadedData). x.place + steps) of) ∙ way ∙ ap (λ (x : LoadedData). path_steps x.queued) of in
          let onward : new ≡ record mid { done = k; ring = xs; rate = w; change = c; position = p; travelled = t; dwelt = d } =
          is ∙ sym (ap (λ (x : State). record x { done = k; ring = xs; rate = w; change = c; position = p; travelled = t; dwelt = d }) st.here) in
          let done = z.ends new p t xs w c k d there far queue rate change (more ∙ ap suc (sym same)) brief onward in
          let position : p ≡ new.position = sym (ap (λ (x : State). x.position) is) in
          let own : drop 1 s.ring ≡ ls = ap (λ ys. drop 1 ys) h.ring in
          let last : Outcome = Ok (Ticked (Some p) (Some (Done mid.done))) in
          record {
            before = e.before;
            count = e.count;
            outcomes = st.outcomes;
            mid = mid;
            goes = st.goes;
            stays = st.stays;
            last = last;
            told = ap₂ (λ x y. Ok (Ticked (Some x) (Some (Done y)))) position same;
            ends = travel_step job l ls mid new last done.0 h.moves st.on.runs st.on.ring;
            goes_on = subst (λ ys. TravelsAtLeast job ys mid new.rate) (sym st.on.ring) done.1;
            steps = steps_are (length (positions st.outcomes)) (place_before s) (place_before mid) place steps (path_steps l) at left st.pulses last_place;
            leaves = leaves_as s new p t xs w c k d more (queue ∙ sym own) brief is;
          });
    }

-- ---- from the fields

free_parts : (a b c : Bool) → (not a && (not b && c)) ≡ true → (a ≡ false) × (b ≡ false) × (c ≡ true)
free_parts false false true h = (refl, refl, refl)
free_parts false false false h = absurd (let never : false ≡ true = h in cc)
free_parts false true c h = absurd (let never : false ≡ true = h in cc)
free_parts true b c h = absurd (let never : false ≡ true = h in cc)

pub frees : (s : State) → is_free s ≡ true → (s.held ≡ false) × (s.stopped ≡ false) × (1 ≤ effective s)
frees s h =
    let parts = free_parts s.held s.stopped (nat_lt 0 (effective s)) h in
    (parts.0, parts.1, ltb-true 0 (effective s) parts.2)

-- the head is a motion with path steps, on a path that it may take
pub head_moves : (ring : List Queued) (place : ℕ) (head : LoadedData) → IsMoving ring → Some head ≡ head_of ring place → 1 ≤ path_steps head.queued
head_moves [] place head moves is_head = elim moves [ ]
head_moves (l ∷ ls) place head moves is_head =
    let of : head ≡ record { queued = l; place = place } = cc in
    subst (λ (x : LoadedData). 1 ≤ path_steps x.queued) (sym of) moves

pub head_takes : (job : Job) (ring : List Queued) (place : ℕ) (head : LoadedData) → IsMoving ring → Some head ≡ head_of ring place → TakePaths job ring →
    MayTake job head.queued.command.action head.queued.path
head_takes job [] place head moves is_head takes = elim moves [ ]
head_takes job (l ∷ ls) place head moves is_head takes =
    let of : head ≡ record { queued = l; place = place } = cc in
    subst (λ (x : LoadedData). MayTake job x.queued.command.action x.queued.path) (sym of) takes.0

-- what is known of the ring and the ramp before the ticks
pub record IsReady (job : Job) (ring : List Queued) (s : State) (r : RampState) (aimed place : ℕ) (head : LoadedData) : Type 0 where
  pub machine : IsMachine job.machine
  pub moves : IsMoving ring
  pub is_head : Some head ≡ head_of ring place
  pub motion : IsMotion head.queued.command.action
  pub free : is_free s ≡ true
  pub queue : s.ring ≡ ring
  pub legs : (joined : Bool) × (r.legs ≡ legs_of job s.done joined ring)
  pub left : IsRest r.rest r.legs
  pub last : r.last_change ≡ s.change
  pub room : r.room ≡ job.machine.ring
  pub rate : r.rate ≡ s.rate
  pub at : s.travelled ≡ travelled_of ring r.rest
  pub target : IsTarget job.machine (effective s) ring place aimed
  pub steady : is_head_by_place job.machine ring ≡ false

on_leg : (job : Job) (l : Queued) (ls : List Queued) (s : State) (r : RampState) (aimed place : ℕ) (head : LoadedData) (h : IsReady job (l ∷ ls) s r aimed place head) →
    IsOnLeg job l ls s r h.legs.0 aimed
on_leg job l ls s r aimed place head h =
    let legs : r.legs ≡ leg_of job s.done h.legs.0 l ∷ legs_after job (suc s.done) l ls = h.legs.1 ∙ moving_legs job s.done h.legs.0 l ls h.moves in
    let left : IsRest r.rest (leg_of job s.done h.legs.0 l ∷ legs_after job (suc s.done) l ls) = subst (λ ks. IsRest r.rest ks) legs h.left in
    let is_head = h.is_head in
    let of : head ≡ record { queued = l; place = place } = cc in
    let free = frees s h.free in
    record {
      machine = h.machine;
      motion = subst (λ (x : LoadedData). IsMotion x.queued.command.action) of h.motion;
      moves = h.moves;
      runs = free.1;
      ring = h.queue;
      legs = legs;
      last = h.last;
      room = h.room;
      rate = h.rate;
      some = left.0;
      within = left.1;
      at = h.at ∙ moving_travelled l ls r.rest h.moves;
      aim = λ p. h.target h.moves ∙ same_elsewhere job.machine l.command.action (path_steps l) (effective s) (point l.path place) h.steady
          ∙ sym (same_elsewhere job.machine l.command.action (path_steps l) (effective s) p h.steady)
          ∙ sym (ap (λ b. if b then 0 else target_on job.machine l.command.action (path_steps l) (effective s) p) free.0);
    }

pub passes_on : (job : Job) (ring : List Queued) (s : State) (r q : RampState) (aimed place n : ℕ) (head : LoadedData) → IsReady job ring s r aimed place head →
    EndsLeg n r aimed q → Passes job ring s q n
passes_on job [] s r q aimed place n head h e = elim h.moves [ ]
passes_on job (l ∷ ls) s r q aimed place n head h e = passes_leg job l ls s r q h.legs.0 aimed n (on_leg job l ls s r aimed place head h) e

-- the first leg, and the wish
pub record IsSet (r : RampState) (aimed : ℕ) (steps : ℕ) : Type 0 where
  pub some : r.legs ≡ [] → ⊥
  pub wish : 1 ≤ aimed
  pub short : r.rest ≤ steps * MILLION

not_empty : (xs ys : List Leg) (y : Leg) → xs ≡ y ∷ ys → xs ≡ [] → ⊥
not_empty xs ys y e none = cc

pub is_set : (job : Job) (ring : List Queued) (s : State) (r : RampState) (aimed place : ℕ) (head : LoadedData) → IsReady job ring s r aimed place head →
    IsSet r aimed (path_steps head.queued)
is_set job [] s r aimed place head h = elim h.moves [ ]
is_set job (l ∷ ls) s r aimed place head h =
    let on = on_leg job l ls s r aimed place head h in
    let is_head = h.is_head in
    let of : head ≡ record { queued = l; place = place } = cc in
    let free = frees s h.free in
    let least : 1 ≤ target_at job.machine l.command.action (path_steps l) (effective s) =
    target_some l.command.action (path_steps l) (effective s) job.machine h.machine on.motion free.2 in
    let aimed_at : aimed ≡ target_at job.machine l.command.action (path_steps l) (effective s) =
    h.target h.moves ∙ same_elsewhere job.machine l.command.action (path_steps l) (effective s) (point l.path place) h.steady in
    record {
      some = not_empty r.legs (legs_after job (suc s.done) l ls) (leg_of job s.done h.legs.0 l) on.legs;
      wish = omega (arith, least, aimed_at);
      short = subst (λ (x : LoadedData). r.rest ≤ path_steps x.queued * MILLION) (sym of) on.within;
    }

pub ready : {A : Type 0} (job : Job) (done : ℕ) (ring : RingData) (drive : Drive A) (dwelt : ℕ) (position : StepPos) (tool : Option Tool) (panel : Panel) (head : LoadedData) →
    IsInOrder job done ring drive dwelt panel → IsMoving ring.loaded → Some head ≡ head_of ring.loaded ring.place → IsMotion head.queued.command.action →
    is_free (state_of done ring drive dwelt position tool panel) ≡ true → is_head_by_place job.machine ring.loaded ≡ false →
    IsReady job ring.loaded (state_of done ring drive dwelt position tool panel) drive.ramp drive.target ring.place head
ready job done ring drive dwelt position tool panel head o moves is_head motion free steady = record {
  machine = o.machine;
  moves = moves;
  is_head = is_head;
  motion = motion;
  free = free;
  queue = refl;
  legs = o.legs;
  left = o.left;
  last = refl;
  room = o.places;
  rate = refl;
  at = refl;
  target = o.target;
  steady = steady;
}
