-- Ticks with nothing to report: many at once are the same as many in order.
use Rattle.std.proofs.Common.{◌≡◌, ℕ, zero, suc, ◌+◌, ◌-◌, ◌*◌, ◌/◌, ◌≤◌, ◌<◌, min, List, [], ◌∷◌, Option, None, Bool, false, cond, refl, ap, ap₂, sym, subst}
use Rattle.std.proofs.Common.{◌∙◌, MatchBool, arith}
use Rattle.std.specs.Prelude.{Ok, replicate, if◌then◌else◌}
use Rattle.std.proofs.lemmas.Bool.{lt-ltb, le-ltb}
use Rattle.ngc_fixed_length.specs.LinePath.{point}
use Rattle.ngc_fixed_length.specs.declared.points.StepPos.{StepPos}
use Rattle.ngc_machine_files.specs.MachineRanges.{IsMachine}
use Rattle.ngc_machine_files.specs.declared.tools.Tool.{Tool}
use Rattle.ngc_commands.specs.declared.command.Action.{Action}
use Rattle.ngc_planner.specs.ArcFeed.{target_on}
use Rattle.ngc_planner.specs.Bounds.{IsMotion}
use Rattle.ngc_fixed_length.specs.Limits.{MILLION}
use Rattle.ngc_planner.specs.Ramp.{RampState, IsRest, MayCoast, MayCoastOn, Coasts}
use Rattle.ngc_planner.proofs.CoastLaws.{coast_ticks, coast_on}
use Rattle.ngc_planner.proofs.ComponentLaws.{change_some}
use Rattle.ngc_events.specs.declared.event.Event.{Event}
use Rattle.ngc_events.specs.declared.event.Event.TheVariants.{Tick}
use Rattle.ngc_events.specs.declared.reply.Reply.TheVariants.{Ticked}
use Rattle.ngc_machine_model.specs.State.{Job, Queued, State, path_steps, millionths, place_before, effective}
use Rattle.ngc_machine_model.specs.Progress.{TravelsAtLeast, GoesOn}
use Rattle.ngc_machine_model.specs.RateRules.{target}
use Rattle.ngc_machine_model.specs.Reach.{leg_of, legs_after}
use Rattle.ngc_machine_model.specs.Step.{Outcome, Travels, Dwells, Finishes, Serves, Rests, HeadTick, TickBy, Step, ticks_of}
use Rattle.ngc_machine_model.specs.Stretch.{Stretch}
use Rattle.ngc_controller.specs.declared.drive.Drive.{Drive}
use Rattle.ngc_controller.specs.declared.panel.Panel.{Panel}
use Rattle.ngc_controller.specs.Drive.{legs_of, IsTarget}
use Rattle.ngc_controller.specs.Fields.{travelled_of, state_of, IsInOrder, IsServed}
use Rattle.ngc_controller.specs.Ring.{RingData, IsMoving, IsPointOn}
use Rattle.ngc_controller.proofs.LegLaws.{moving_legs, moving_travelled}
use Rattle.ngc_controller.specs.Coasting.{travelled_on, dwelt_on, coasted_on, coasted, CoastsFor}
use Rattle.ngc_controller.proofs.TravelLaws.{IsTravel, has_travelled, goes_on}

-- ---- one tick after the other

pub no_ticks : (job : Job) (s : State) → Stretch job s s [] []
no_ticks job s = record { states = []; runs = tt; goes_on = tt; last = refl }

pub tick_more : (job : Job) (old mid new : State) (e : Event) (o : Outcome) (es : List Event) (os : List Outcome) → Step job old e o mid →
    GoesOn job old e mid → Stretch job mid new es os → Stretch job old new (e ∷ es) (o ∷ os)
tick_more job old mid new e o es os step goes more = record {
  states = mid ∷ more.states;
  runs = (step, more.runs);
  goes_on = (goes, more.goes_on);
  last = more.last;
}

-- they have nothing to report
abbrev quiet : Outcome
quiet = Ok (Ticked None None)

-- ---- the state after them, by the kind of the head

pub coasted_some : (n : ℕ) (s : State) → 1 ≤ n → coasted n s ≡ coasted_on n s.ring s
coasted_some zero s some = absurd (omega arith)
coasted_some (suc n) s some = refl

pub coasted_travelled : (n : ℕ) (l : Queued) (ls : List Queued) (s : State) → 1 ≤ n → s.ring ≡ l ∷ ls → 1 ≤ path_steps l → coasted n s ≡ travelled_on n l s
coasted_travelled n l ls s some ring moves =
    coasted_some n s some ∙ ap (λ xs. coasted_on n xs s) ring ∙ ap (λ b. cond b (travelled_on n l s) (dwelt_on n s)) (lt-ltb 0 (path_steps l) moves)

pub coasted_dwelt : (n : ℕ) (l : Queued) (ls : List Queued) (s : State) → 1 ≤ n → s.ring ≡ l ∷ ls → path_steps l ≤ 0 → coasted n s ≡ dwelt_on n s
coasted_dwelt n l ls s some ring still =
    coasted_some n s some ∙ ap (λ xs. coasted_on n xs s) ring ∙ ap (λ b. cond b (travelled_on n l s) (dwelt_on n s)) (le-ltb 0 (path_steps l) still)

-- ---- ticks that travel

-- what is known if n ticks at the rate of the last one may follow
pub record IsEven (job : Job) (l : Queued) (ls : List Queued) (s : State) (r : RampState) (joined : Bool) (wish n : ℕ) : Type 0 where
  pub machine : IsMachine job.machine
  pub motion : IsMotion l.command.action
  pub moves : 1 ≤ path_steps l
  pub runs : s.stopped ≡ false
  pub ring : s.ring ≡ l ∷ ls
  pub legs : r.legs ≡ leg_of job s.done joined l ∷ legs_after job (suc s.done) l ls
  pub last : r.last_change ≡ s.change
  pub rate : r.rate ≡ s.rate
  pub within : r.rest ≤ millionths l
  pub at : s.travelled ≡ millionths l - r.rest
  pub aim : wish ≡ target job l s
  pub may : MayCoast r wish (leg_of job s.done joined l) n

abbrev travelled_one : Queued → State → State
travelled_one l s = record s { travelled = s.travelled + s.rate; position = point l.path (place_before s) }

abbrev one_less : RampState → RampState
one_less r = record r { rest = r.rest - r.rate }

even_tick : (job : Job) (l : Queued) (ls : List Queued) (s : State) (r : RampState) (joined : Bool) (wish n : ℕ) → IsEven job l ls s r joined wish (suc n) →
    IsTravel job l ls s r (one_less r) joined wish r.rate (place_before s) false false (place_before s) (point l.path (place_before s))
even_tick job l ls s r joined wish n h = record {
  machine = h.machine;
  motion = h.motion;
  moves = h.moves;
  legs = h.legs;
  last = h.last;
  rate = h.rate;
  some = omega (arith, h.may.brakes);
  within = h.within;
  at = h.at;
  place_at = refl;
  aim = h.aim;
  tick = coast_ticks r wish n (leg_of job s.done joined l) (legs_after job (suc s.done) l ls)
      (change_some job.machine l.command.action (path_steps l) h.machine) h.within h.may;
  place_next = refl;
  point_at = refl;
}

travels_step : (job : Job) (l : Queued) (ls : List Queued) (s new : State) → Travels job l ls s quiet new → 1 ≤ path_steps l → s.stopped ≡ false →
    s.ring ≡ l ∷ ls → Step job s Tick quiet new
travels_step job l ls s new travels moves runs ring =
    let head : HeadTick job l ls s quiet new =
    subst (λ b. MatchBool b (Travels job l ls s quiet new) (MatchBool s.held (Rests s quiet new) (Serves job l.command.action s quiet new)))
    (sym (lt-ltb 0 (path_steps l) moves)) travels in
    subst (λ b. TickBy job b s.ring s quiet new) (sym runs) (subst (λ xs. TickBy job false xs s quiet new) (sym ring) head)

-- the others follow
even_on : (job : Job) (l : Queued) (ls : List Queued) (s : State) (r : RampState) (joined : Bool) (wish n : ℕ) → IsEven job l ls s r joined wish (suc n) →
    r.rate < r.rest → (s.travelled + s.rate) / MILLION ≡ s.travelled / MILLION → IsEven job l ls (travelled_one l s) (one_less r) joined wish n
even_on job l ls s r joined wish n h less place = record {
  machine = h.machine;
  motion = h.motion;
  moves = h.moves;
  runs = h.runs;
  ring = h.ring;
  legs = h.legs;
  last = h.last;
  rate = h.rate;
  within = omega (arith, h.within);
  at = omega (arith, h.at, h.within, h.rate);
  aim = h.aim ∙ ap (λ k. if s.held then 0 else target_on job.machine l.command.action (path_steps l) (effective s) (point l.path k)) (sym place);
  may = coast_on r wish n (leg_of job s.done joined l) h.within h.may;
}

-- and lead to the same state
same_travelled : (n : ℕ) (l : Queued) (ls : List Queued) (s : State) → s.ring ≡ l ∷ ls → 1 ≤ path_steps l →
    (s.travelled + s.rate) / MILLION ≡ s.travelled / MILLION → coasted n (travelled_one l s) ≡ travelled_on (suc n) l s
same_travelled zero l ls s ring moves place =
    let one : s.travelled + s.rate ≡ s.travelled + 1 * s.rate = omega arith in
    ap (λ t. record s { travelled = t; position = point l.path (place_before s) }) one
same_travelled (suc n) l ls s ring moves place =
    let all : s.travelled + s.rate + suc n * s.rate ≡ s.travelled + suc (suc n) * s.rate = omega arith in
    coasted_travelled (suc n) l ls (travelled_one l s) (omega arith) ring moves
    ∙ ap₂ (λ t k. record s { travelled = t; position = point l.path k }) all place

pub coasts_even : (n : ℕ) (job : Job) (l : Queued) (ls : List Queued) (s : State) (r : RampState) (joined : Bool) (wish : ℕ) →
    IsEven job l ls s r joined wish n → CoastsFor job s n
coasts_even zero job l ls s r joined wish h = no_ticks job s
coasts_even (suc n) job l ls s r joined wish h =
    let mid = travelled_one l s in
    let k = even_tick job l ls s r joined wish n h in
    let has = has_travelled job l ls s r (one_less r) joined wish r.rate (place_before s) false false (place_before s) (point l.path (place_before s)) k in
    let less : r.rate < r.rest = omega (arith, h.may.brakes) in
    let travels : Travels job l ls s quiet mid = goes_on job l ls s mid r r.rate (place_before s) false (point l.path (place_before s))
    (s.travelled + s.rate) s.ring s.rate s.change has h.at h.within less (omega (arith, h.rate)) refl (sym h.rate) (sym h.last ∙ h.may.same) refl in
    let least : TravelsAtLeast job s.ring s s.rate = subst (λ v. TravelsAtLeast job s.ring s v) h.rate
    (subst (λ xs. TravelsAtLeast job xs s r.rate) (sym h.ring) has.least) in
    let place : (s.travelled + s.rate) / MILLION ≡ s.travelled / MILLION = (
    let whole : min (s.travelled + r.rate) (millionths l) ≡ s.travelled + s.rate = omega (arith, h.at, h.within, h.rate, less) in
    ap (λ t. t / MILLION) (sym whole) ∙ sym has.place) in
    let last : coasted n mid ≡ coasted (suc n) s = same_travelled n l ls s h.ring h.moves place
    ∙ sym (coasted_travelled (suc n) l ls s (omega arith) h.ring h.moves) in
    subst (λ t. Stretch job s t (replicate (suc n) Tick) (replicate (suc n) quiet)) last
    (tick_more job s mid (coasted n mid) Tick quiet (replicate n Tick) (replicate n quiet) (travels_step job l ls s mid travels h.moves h.runs h.ring) least
    (coasts_even n job l ls mid (one_less r) joined wish (even_on job l ls s r joined wish n h less place)))

-- ---- from the invariant of the fields

-- what is known of the ramp and the ring
pub record IsEvenOn (job : Job) (queue : List Queued) (s : State) (r : RampState) (wish aimed n place : ℕ) (p : StepPos) : Type 0 where
  pub machine : IsMachine job.machine
  pub moves : IsMoving queue
  pub runs : s.stopped ≡ false
  pub ring : s.ring ≡ queue
  pub legs : (joined : Bool) × (r.legs ≡ legs_of job s.done joined queue)
  pub left : IsRest r.rest r.legs
  pub last : r.last_change ≡ s.change
  pub rate : r.rate ≡ s.rate
  pub at : s.travelled ≡ travelled_of queue r.rest
  pub place_at : place ≡ s.travelled / MILLION
  pub aim : wish ≡ (if s.held then 0 else aimed)
  pub target : IsTarget job.machine (effective s) queue place aimed
  pub may : MayCoastOn r.legs r wish n
  pub some : 1 ≤ n
  pub point_at : IsPointOn queue place p

even_head : (job : Job) (l : Queued) (ls : List Queued) (s : State) (r : RampState) (wish aimed n place : ℕ) (p : StepPos)
    (h : IsEvenOn job (l ∷ ls) s r wish aimed n place p) → IsEven job l ls s r h.legs.0 wish n
even_head job l ls s r wish aimed n place p h =
    let legs : r.legs ≡ leg_of job s.done h.legs.0 l ∷ legs_after job (suc s.done) l ls = h.legs.1 ∙ moving_legs job s.done h.legs.0 l ls h.moves in
    let left : IsRest r.rest (leg_of job s.done h.legs.0 l ∷ legs_after job (suc s.done) l ls) = subst (λ ks. IsRest r.rest ks) legs h.left in
    let may : MayCoastOn (leg_of job s.done h.legs.0 l ∷ legs_after job (suc s.done) l ls) r wish n = subst (λ ks. MayCoastOn ks r wish n) legs h.may in
    record {
      machine = h.machine;
      motion = h.point_at.1;
      moves = h.moves;
      runs = h.runs;
      ring = h.ring;
      legs = legs;
      last = h.last;
      rate = h.rate;
      within = left.1;
      at = h.at ∙ moving_travelled l ls r.rest h.moves;
      aim = h.aim ∙ ap (λ t. if s.held then 0 else t) (h.target h.moves
          ∙ ap (λ k. target_on job.machine l.command.action (path_steps l) (effective s) (point l.path k)) h.place_at);
      may = may h.some;
    }

pub coasts_on : (job : Job) (queue : List Queued) (s : State) (r : RampState) (wish aimed n place : ℕ) (p : StepPos) →
    IsEvenOn job queue s r wish aimed n place p → CoastsFor job s n
coasts_on job [] s r wish aimed n place p h = elim h.moves [ ]
coasts_on job (l ∷ ls) s r wish aimed n place p h = coasts_even n job l ls s r h.legs.0 wish (even_head job l ls s r wish aimed n place p h)

-- from the fields
pub even_by : {A : Type 0} (job : Job) (done : ℕ) (ring after : RingData) (drive : Drive A) (dwelt : ℕ) (position : StepPos) (tool : Option Tool) (panel : Panel)
    (s : RampState) (wish n : ℕ) (p : StepPos) →
    IsInOrder job done ring drive dwelt panel → IsMoving ring.loaded → panel.stopped ≡ false → wish ≡ (if panel.held then 0 else drive.target) →
    Coasts drive.ramp wish n s → 1 ≤ n → after.loaded ≡ ring.loaded → after.place ≡ ring.place → IsPointOn after.loaded after.place p →
    IsEvenOn job ring.loaded (state_of done ring drive dwelt position tool panel) drive.ramp wish drive.target n ring.place p
even_by job done ring after drive dwelt position tool panel s wish n p o moves runs aim coasts some queue place point = record {
  machine = o.machine;
  moves = moves;
  runs = runs;
  ring = refl;
  legs = o.legs;
  left = o.left;
  last = refl;
  rate = refl;
  at = refl;
  place_at = o.place;
  aim = aim;
  target = o.target;
  may = coasts.may;
  some = some;
  point_at = subst (λ k. IsPointOn ring.loaded k p) place (subst (λ xs. IsPointOn xs after.place p) queue point);
}

-- ---- ticks that dwell

pub record IsDwell (job : Job) (l : Queued) (ls : List Queued) (s : State) (n : ℕ) : Type 0 where
  pub still : path_steps l ≤ 0
  pub runs : s.stopped ≡ false
  pub free : s.held ≡ false
  pub ring : s.ring ≡ l ∷ ls
  pub slow : s.rate ≤ s.change
  pub long : 1 ≤ n → s.dwelt + n < ticks_of job l.command.action

abbrev dwelt_one : State → State
dwelt_one s = record s { rate = 0; dwelt = suc s.dwelt }

dwells_step : (job : Job) (l : Queued) (ls : List Queued) (s new : State) → Dwells s quiet new → suc s.dwelt < ticks_of job l.command.action →
    path_steps l ≤ 0 → s.stopped ≡ false → s.held ≡ false → s.ring ≡ l ∷ ls → Step job s Tick quiet new
dwells_step job l ls s new dwells short still runs free ring =
    let serves : Serves job l.command.action s quiet new = subst (λ b. MatchBool b (Dwells s quiet new) (Finishes l.command.action s quiet new))
    (sym (lt-ltb (suc s.dwelt) (ticks_of job l.command.action) short)) dwells in
    let head : HeadTick job l ls s quiet new =
    subst (λ b. MatchBool b (Travels job l ls s quiet new) (MatchBool s.held (Rests s quiet new) (Serves job l.command.action s quiet new)))
    (sym (le-ltb 0 (path_steps l) still))
    (subst (λ b. MatchBool b (Rests s quiet new) (Serves job l.command.action s quiet new)) (sym free) serves) in
    subst (λ b. TickBy job b s.ring s quiet new) (sym runs) (subst (λ xs. TickBy job false xs s quiet new) (sym ring) head)

-- there is no least travel
still_goes : (job : Job) (l : Queued) (ls : List Queued) (s : State) (v : ℕ) → path_steps l ≤ 0 → TravelsAtLeast job (l ∷ ls) s v
still_goes job l ls s v still = λ free some. absurd (omega (arith, some, still))

same_dwelt : (n : ℕ) (l : Queued) (ls : List Queued) (s : State) → s.ring ≡ l ∷ ls → path_steps l ≤ 0 → coasted n (dwelt_one s) ≡ dwelt_on (suc n) s
same_dwelt zero l ls s ring still = let one : suc s.dwelt ≡ s.dwelt + 1 = omega arith in ap (λ d. record s { rate = 0; dwelt = d }) one
same_dwelt (suc n) l ls s ring still =
    let all : suc s.dwelt + suc n ≡ s.dwelt + suc (suc n) = omega arith in
    coasted_dwelt (suc n) l ls (dwelt_one s) (omega arith) ring still ∙ ap (λ d. record s { rate = 0; dwelt = d }) all

pub coasts_dwell : (n : ℕ) (job : Job) (l : Queued) (ls : List Queued) (s : State) → IsDwell job l ls s n → CoastsFor job s n
coasts_dwell zero job l ls s h = no_ticks job s
coasts_dwell (suc n) job l ls s h =
    let mid = dwelt_one s in
    let long = h.long (omega arith) in
    let dwells : Dwells s quiet mid = record { slow = h.slow; quiet = refl; counts = refl } in
    let least : TravelsAtLeast job s.ring s 0 = subst (λ xs. TravelsAtLeast job xs s 0) (sym h.ring) (still_goes job l ls s 0 h.still) in
    let next : IsDwell job l ls mid n = record {
      still = h.still;
      runs = h.runs;
      free = h.free;
      ring = h.ring;
      slow = omega arith;
      long = λ some. omega (arith, long);
    } in
    let last : coasted n mid ≡ coasted (suc n) s = same_dwelt n l ls s h.ring h.still ∙ sym (coasted_dwelt (suc n) l ls s (omega arith) h.ring h.still) in
    subst (λ t. Stretch job s t (replicate (suc n) Tick) (replicate (suc n) quiet)) last
    (tick_more job s mid (coasted n mid) Tick quiet (replicate n Tick) (replicate n quiet)
    (dwells_step job l ls s mid dwells (omega (arith, long)) h.still h.runs h.free h.ring) least (coasts_dwell n job l ls mid next))

pub coasts_served : (job : Job) (queue : List Queued) (s : State) (a : Action) (left n : ℕ) → IsServed queue a → s.ring ≡ queue → s.stopped ≡ false →
    s.held ≡ false → s.rate ≤ s.change →
    left ≡ ticks_of job a - suc s.dwelt → n ≤ left → CoastsFor job s n
coasts_served job [] s a left n served ring runs free slow is few = elim served [ ]
coasts_served job (l ∷ ls) s a left n served ring runs free slow is few =
    let same : ticks_of job l.command.action ≡ ticks_of job a = ap (λ b. ticks_of job b) served.0 in
    coasts_dwell n job l ls s (record {
      still = omega (arith, served.1);
      runs = runs;
      free = free;
      ring = ring;
      slow = slow;
      long = λ some. omega (arith, same, is, few, some);
    })

served_dwelt : (queue : List Queued) (s : State) (a : Action) (n : ℕ) → IsServed queue a → s.ring ≡ queue → 1 ≤ n → coasted n s ≡ dwelt_on n s
served_dwelt [] s a n served ring some = elim served [ ]
served_dwelt (l ∷ ls) s a n served ring some = coasted_dwelt n l ls s some ring (omega (arith, served.1))

pub state_served : {A : Type 0} (done : ℕ) (ring : RingData) (drive new : Drive A) (dwelt n : ℕ) (position : StepPos) (tool : Option Tool) (panel : Panel) (a : Action) →
    IsServed ring.loaded a → 1 ≤ n →
    new ≡ record drive { ramp = record drive.ramp { rate = 0 } } → state_of done ring new (dwelt + n) position tool panel
    ≡ coasted n (state_of done ring drive dwelt position tool panel)
state_served {A = A} done ring drive new dwelt n position tool panel a served some is =
    let old = state_of done ring drive dwelt position tool panel in
    ap (λ (d : Drive A). state_of done ring d (dwelt + n) position tool panel) is ∙ sym (served_dwelt ring.loaded old a n served refl some)
