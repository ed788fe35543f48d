-- The accounts of the motions bound the pulses of an axis.
use Rattle.std.proofs.Common.{◌≡◌, ℕ, suc, ◌+◌, ◌-◌, ◌*◌, ◌/◌, ◌<◌, ◌≤◌, inl, inr, ap, subst, sym, ◌∙◌, arith, refl, List, [], ◌∷◌, ◌++◌, length, drop, Some}
use Rattle.std.proofs.Common.{None, true, false, Bool}
use Rattle.std.specs.Prelude.{Option, MatchBool, nat_lt, nat_le}
use Rattle.std.proofs.lemmas.Bool.{cases_lt, true≢false}
use Rattle.std.proofs.lemmas.Bool.Decides.{nat_tests}
use Rattle.std.proofs.Math.Nat.{mul-le-mul_left}
use Rattle.ngc_fixed_length.specs.declared.points.StepPos.{StepPos}
use Rattle.ngc_fixed_length.specs.Length.{IsStep}
use Rattle.ngc_fixed_length.specs.Grid.{grid}
use Rattle.ngc_fixed_length.specs.LinePath.{point}
use Rattle.ngc_machine_files.specs.MachineRanges.{IsMachine}
use Rattle.ngc_commands.specs.declared.command.Command.{Command}
use Rattle.ngc_commands.specs.Movement.{actions_of, ways_of, AreJoined}
use Rattle.ngc_planner.specs.Bounds.{IsWithinBounds}
use Rattle.ngc_fixed_length.specs.Limits.{MILLION}
use Rattle.ngc_planner.specs.Pulses.{is_stepping, count_in, up_to_whole}
use Rattle.ngc_events.specs.declared.event.Event.{Event}
use Rattle.ngc_events.specs.declared.event.Event.TheVariants.{Load, Tick, Hold, Resume, Override, StopSwitch, Start}
use Rattle.ngc_machine_model.specs.State.{Job, Queued, State, opening, loaded, command_at, path_steps, millionths}
use Rattle.ngc_machine_model.specs.Step.{Outcome, Step, LoadCommand, MayTake, Rests, Finishes, Dwells, Serves, Travels, HeadTick, TickBy, without_head, after}
use Rattle.ngc_machine_model.specs.Step.{place_after, ticks_of}
use Rattle.ngc_machine_model.specs.RateRules.{PassesInto}
use Rattle.ngc_machine_model.specs.Run.{Run, step_to, pulses}
use Rattle.ngc_machine_model.specs.Progress.{is_tick}
use Rattle.ngc_machine_model.proofs.TestCases.{match_with}
use Rattle.ngc_machine_model.proofs.SafeRun.{RingFits}
use Rattle.ngc_machine_model.proofs.RatesOfRun.{Fits, after_stays, event_keeps, goes_over, over_small}
use Rattle.ngc_machine_model.proofs.Travel.{moved}
use Rattle.ngc_machine_model.proofs.PulseRules.{IsOnHead, WalksIn, head_path, opening_walks, rate_most, tick_both, waits}
use Rattle.ngc_machine_model.proofs.StillAxes.{Axis, on}
use Rattle.ngc_machine_model.proofs.AxisCounts.{passes, IsNotAhead, IsNotBehind, AreFew, AreBounded, few_none, few_same, few_by, few_next, few_fresh, bounded_none, bounded_next}
use Rattle.ngc_machine_model.proofs.AxisAccounts.{steps, no_step, IsShare, ActionAccount, action_account, axis_rate, slack_of}

-- ---- the account of a state

-- that of the head, if there is one
abbrev RingAccount : Job → Axis → List Queued → Type 0
RingAccount job axis [] = Unit {0}
RingAccount job axis (l ∷ ls) = ActionAccount job axis l.command.action l.path

head_takes : (job : Job) (l : Queued) (ls : List Queued) (left : List Command) → RingFits job left (l ∷ ls) → MayTake job l.command.action l.path
head_takes job l ls [] fits = absurd fits
head_takes job l ls (c ∷ cs) fits = subst (λ (d : Command). MayTake job d.action l.path) (sym fits.0) fits.1

ring_account : (job : Job) → IsStep job.machine.step → (axis : Axis) (left : List Command) (ring : List Queued) → RingFits job left ring → RingAccount job axis ring
ring_account job unit axis left [] fits = tt
ring_account job unit axis left (l ∷ ls) fits = action_account job unit axis l.command.action l.path (head_takes job l ls left fits)

-- ticks in which the axis steps seldom enough, after these millionths on the head
abbrev AreFewFrom : (job : Job) (axis : Axis) (ring : List Queued) → RingAccount job axis ring → ℕ → List StepPos → Type 0
AreFewFrom job axis [] a t ticks = AreFew (steps axis) (axis_rate job axis) (slack_of job) 1 0 0 ticks
AreFewFrom job axis (l ∷ ls) a t ticks = AreFew (steps axis) (axis_rate job axis) (slack_of job) a.q (a.made (t / MILLION)) (t * a.e) ticks

abbrev AreFewOn : Job → Axis → List Queued → ℕ → List StepPos → Type 0
AreFewOn job axis ring t ticks = (a : RingAccount job axis ring) → AreFewFrom job axis ring a t ticks

abbrev AreFewIn : Job → Axis → State → List StepPos → Type 0
AreFewIn job axis s ticks = AreFewOn job axis s.ring s.travelled ticks

-- on the head the steps agree with the travel
ahead_by : (slack q e m k t : ℕ) → 2 * (q * m) ≤ slack * q + 2 * (k * e) → k * MILLION ≤ t → IsNotAhead slack q m (t * e)
ahead_by slack q e m k t half whole = let way = mul-le-mul_left e whole in omega (arith, half, way)

behind_by : (slack q e m k t : ℕ) → 2 * (k * e) ≤ slack * q + 2 * (q * m) → e ≤ q → t ≤ k * MILLION + (MILLION - 1) → IsNotBehind slack q m (t * e)
behind_by slack q e m k t half part whole = let way = mul-le-mul_left e whole in omega (arith, half, way, part)

not_ahead : (slack n q e : ℕ) (made : ℕ → ℕ) (axis : Axis) (path : List StepPos) (t : ℕ) → IsShare axis path slack n q e made → t ≤ n * MILLION - 1 →
    IsNotAhead slack q (made (t / MILLION)) (t * e)
not_ahead slack n q e made axis path t s f =
    ahead_by slack q e (made (t / MILLION)) (t / MILLION) t (s.not_ahead (t / MILLION) (omega (arith, f))) (omega arith)

not_behind : (slack n q e : ℕ) (made : ℕ → ℕ) (axis : Axis) (path : List StepPos) (t : ℕ) → IsShare axis path slack n q e made → t ≤ n * MILLION - 1 →
    IsNotBehind slack q (made (t / MILLION)) (t * e)
not_behind slack n q e made axis path t s f =
    behind_by slack q e (made (t / MILLION)) (t / MILLION) t (s.not_behind (t / MILLION) (omega (arith, f))) s.part (omega arith)

none_few : (job : Job) (axis : Axis) (ring : List Queued) (t : ℕ) → Fits ring t → AreFewOn job axis ring t []
none_few job axis [] t f a = few_none (steps axis) (axis_rate job axis) (slack_of job) 1 0 0 (omega arith)
none_few job axis (l ∷ ls) t f a =
    few_none (steps axis) (axis_rate job axis) (slack_of job) a.q (a.made (t / MILLION)) (t * a.e)
    (not_ahead (slack_of job) (path_steps l) a.q a.e a.made axis l.path t a.share f)

window_few : (job : Job) (axis : Axis) (ring : List Queued) (a : RingAccount job axis ring) (t : ℕ) (x : StepPos) (ticks : List StepPos) → Fits ring t →
    AreFewFrom job axis ring a t (x ∷ ticks) → AreBounded (steps axis) (axis_rate job axis) (slack_of job) ticks →
    AreBounded (steps axis) (axis_rate job axis) (slack_of job) (x ∷ ticks)
window_few job axis [] a t x ticks f few later =
    bounded_next (steps axis) (axis_rate job axis) (slack_of job) 1 0 0 x ticks (omega arith) (omega arith) few later
window_few job axis (l ∷ ls) a t x ticks f few later =
    bounded_next (steps axis) (axis_rate job axis) (slack_of job) a.q (a.made (t / MILLION)) (t * a.e) x ticks a.share.some
    (not_behind (slack_of job) (path_steps l) a.q a.e a.made axis l.path t a.share f) few later

-- ---- a tick in which nothing moves

stands : (job : Job) (axis : Axis) (ring : List Queued) (t : ℕ) (x : StepPos) (ticks : List StepPos) → Fits ring t → passes (steps axis x) ≡ 0 →
    AreFewOn job axis ring t ticks → AreFewOn job axis ring t (x ∷ ticks)
stands job axis [] t x ticks f none few a =
    few_same (steps axis) (axis_rate job axis) (slack_of job) 1 0 0 0 0 0 x ticks (omega arith) (omega (arith, none)) (omega arith) (omega arith) (few a)
stands job axis (l ∷ ls) t x ticks f none few a =
    few_same (steps axis) (axis_rate job axis) (slack_of job) a.q (a.made (t / MILLION)) (t * a.e) (a.made (t / MILLION)) (t * a.e) 0 x ticks
    (not_ahead (slack_of job) (path_steps l) a.q a.e a.made axis l.path t a.share f) (omega (arith, none)) (omega arith) (omega arith) (few a)

stands_in : (job : Job) (axis : Axis) (old new : State) (ticks : List StepPos) → Fits old.ring old.travelled → new.position ≡ old.position →
    AreFewIn job axis old ticks → AreFewIn job axis old (step_to old.position new.position ∷ ticks)
stands_in job axis old new ticks f p few =
    stands job axis old.ring old.travelled (step_to old.position new.position) ticks f (no_step axis old.position new.position (ap (on axis) (sym p))) few

rest_few : (job : Job) (axis : Axis) (old new : State) (ticks : List StepPos) → Fits old.ring old.travelled → new ≡ record old { rate = 0 } →
    AreFewIn job axis new ticks → AreFewIn job axis old (step_to old.position new.position ∷ ticks)
rest_few job axis old new ticks f n few =
    stands_in job axis old new ticks f (ap (λ (s : State). s.position) n) (subst (λ (s : State). AreFewIn job axis s ticks) n few)

-- ---- a tick on a head with path steps

-- from point j of a path to point k, the same or the next
made_next : (slack n q e : ℕ) (made : ℕ → ℕ) (axis : Axis) (path : List StepPos) (j k : ℕ) → IsShare axis path slack n q e made → j ≤ k → k ≤ j + 1 → k ≤ n →
    passes (steps axis (step_to (point path j) (point path k))) + made j ≤ made k
made_next slack n q e made axis path j k s jk kj kn = elim (cases_lt j k) [
  | inl h ↦
      let next : j + 1 ≡ k = omega (arith, h, kj) in
      subst (λ i. passes (steps axis (step_to (point path j) (point path i))) + made j ≤ made i) next (s.moves j (omega (arith, h, kn)))
  | inr h ↦
      let same : j ≡ k = omega (arith, h, jk) in
      subst (λ i. passes (steps axis (step_to (point path j) (point path i))) + made j ≤ made i) same
      (let none = no_step axis (point path j) (point path j) refl in omega (arith, none))
]

-- what a tick goes on with over a joint
record Next (job : Job) (axis : Axis) (over v : ℕ) (ticks : List StepPos) : Type 0 where
  pub q : ℕ
  pub e : ℕ
  pub some : 0 < q
  pub slow : over * (v * e) ≤ over * (axis_rate job axis * q)
  pub few : AreFew (steps axis) (axis_rate job axis) (slack_of job) q 0 (over * e) ticks

next_few : (job : Job) (axis : Axis) (l : Queued) (ring : List Queued) (over v : ℕ) (ticks : List StepPos) → RingAccount job axis ring →
    (0 < over → PassesInto job v l ring) → over < MILLION → AreFewOn job axis ring over ticks → Next job axis over v ticks
next_few job axis l [] over v ticks a into small few = record {
  q = 1;
  e = 0;
  some = omega arith;
  slow = omega arith;
  few = few_by (steps axis) (axis_rate job axis) (slack_of job) 1 0 0 0 (over * 0) ticks refl (omega arith) (few a);
}
next_few job axis l (k ∷ ks) over v ticks a into small few =
    let first : over / MILLION ≡ 0 = omega (arith, small) in
    let begins : a.made (over / MILLION) ≡ 0 = ap a.made first ∙ a.share.begins in
    record {
      q = a.q;
      e = a.e;
      some = a.share.some;
      slow = elim (cases_lt 0 over) [
        | inl more ↦ mul-le-mul_left over (a.slow v (into more).1)
        | inr none ↦ let z : over ≡ 0 = omega (arith, none) in subst (λ o. o * (v * a.e) ≤ o * (axis_rate job axis * a.q)) (sym z) (omega arith)
      ];
      few = few_by (steps axis) (axis_rate job axis) (slack_of job) a.q (a.made (over / MILLION)) (over * a.e) 0 (over * a.e) ticks begins refl (few a);
    }

whole_travel : (q total n e t rest : ℕ) → q * total ≡ n * e → t + rest ≡ n * MILLION → q * total * MILLION ≡ (t + rest) * e
whole_travel q total n e t rest ends long = omega (arith, ends, ap (λ s. s * e) long)

over_few : (job : Job) (axis : Axis) (l : Queued) (a : ActionAccount job axis l.command.action l.path) (t over v : ℕ) (x : StepPos) (ticks : List StepPos) →
    t ≤ millionths l - 1 → 0 < path_steps l → t + v ≡ millionths l + over → passes (steps axis x) + a.made (t / MILLION) ≤ a.made (path_steps l) →
    IsWithinBounds job.machine l.command.action (path_steps l) v → Next job axis over v ticks →
    AreFew (steps axis) (axis_rate job axis) (slack_of job) a.q (a.made (t / MILLION)) (t * a.e) (x ∷ ticks)
over_few job axis l a t over v x ticks f some travel step within next =
    let rest = millionths l - t in
    let parts : v ≡ over + rest = omega (arith, travel, f, some) in
    let long : t + rest ≡ path_steps l * MILLION = omega (arith, f, some) in
    let whole = whole_travel a.q (a.made (path_steps l)) (path_steps l) a.e t rest a.share.ends long in
    few_next (steps axis) (axis_rate job axis) (slack_of job) a.q (a.made (t / MILLION)) a.e t (a.made (path_steps l)) next.q next.e over rest x ticks
    (not_ahead (slack_of job) (path_steps l) a.q a.e a.made axis l.path t a.share f) step whole (omega (arith, f, some)) next.some
    (subst (λ w. w * a.e ≤ axis_rate job axis * a.q) parts (a.slow v within))
    (subst (λ w. over * (w * next.e) ≤ over * (axis_rate job axis * next.q)) parts next.slow) next.few

-- the step of the axis in a tick
tick_step : (axis : Axis) (path : List StepPos) (p q : StepPos) (j k : ℕ) (made : ℕ → ℕ) → p ≡ point path j → q ≡ point path k →
    passes (steps axis (step_to (point path j) (point path k))) + made j ≤ made k → passes (steps axis (step_to p q)) + made j ≤ made k
tick_step axis path p q j k made at there step =
    let e : passes (steps axis (step_to p q)) ≡ passes (steps axis (step_to (point path j) (point path k))) =
    ap (λ s. passes (steps axis (step_to s q))) at ∙ ap (λ s. passes (steps axis (step_to (point path j) s))) there in
    omega (arith, e, step)

travel_few : (job : Job) → IsStep job.machine.step → (axis : Axis) (l : Queued) (ls : List Queued) (old : State) (o : Outcome) (new : State) (ticks : List StepPos) →
    old.ring ≡ l ∷ ls → old.travelled ≤ millionths l - 1 → new.rate ≤ MILLION → 0 < path_steps l → WalksIn job old → WalksIn job new →
    Travels job l ls old o new →
    AreFewIn job axis new ticks → AreFewOn job axis (l ∷ ls) old.travelled (step_to old.position new.position ∷ ticks)
travel_few job unit axis l ls old o new ticks e f small p walks later t few a =
    let m = moved job l ls old o new t in
    let over = old.travelled + new.rate - millionths l in
    let goes = goes_over job l ls old o new small p f t in
    let less = over_small l ls over goes in
    let at = head_path job l ls walks.left walks.place old.travelled old.position walks.joined (subst (RingFits job walks.left) e walks.fits) p walks.begins
    (λ h. subst (λ r. IsOnHead r old.travelled old.position) e (walks.goes_on h)) in
    let j = old.travelled / MILLION in
    elim (m.state) [
      | inl s ↦
          let full = s.0 in
          let k : place_after l old new.rate ≡ path_steps l = omega (arith, full) in
          let ring : new.ring ≡ ls = s.2 ∙ ap (drop 1) e in
          let there : AreFewOn job axis ls over ticks = subst (λ r. AreFewOn job axis r over ticks) ring
          (subst (λ u. AreFewOn job axis new.ring u ticks) s.3 few) in
          let b = subst (RingAccount job axis) ring (ring_account job unit axis later.left new.ring later.fits) in
          let next = next_few job axis l ls over new.rate ticks b (λ h. t.may.rules.goes_on (omega (arith, h))) less there in
          let step = made_next (slack_of job) (path_steps l) a.q a.e a.made axis l.path j (path_steps l) a.share (omega (arith, f, p))
          (omega (arith, full, small)) (omega arith) in
          over_few job axis l a old.travelled over new.rate (step_to old.position new.position) ticks f p (omega (arith, full))
          (tick_step axis l.path old.position new.position j (path_steps l) a.made at (m.position ∙ ap (point l.path) k) step) t.may.rules.within next
      | inr s ↦
          let short = s.3 in
          let next = (old.travelled + new.rate) / MILLION in
          let k : place_after l old new.rate ≡ next = omega (arith, short) in
          let there : AreFewOn job axis (l ∷ ls) (old.travelled + new.rate) ticks = subst (λ r. AreFewOn job axis r (old.travelled + new.rate) ticks) (s.1 ∙ e)
          (subst (λ u. AreFewOn job axis new.ring u ticks) s.2 few) in
          let step = made_next (slack_of job) (path_steps l) a.q a.e a.made axis l.path j next a.share (omega arith) (omega (arith, small))
          (omega (arith, short)) in
          few_same (steps axis) (axis_rate job axis) (slack_of job) a.q (a.made j) (old.travelled * a.e) (a.made next) ((old.travelled + new.rate) * a.e)
          (new.rate * a.e) (step_to old.position new.position) ticks
          (not_ahead (slack_of job) (path_steps l) a.q a.e a.made axis l.path old.travelled a.share f)
          (tick_step axis l.path old.position new.position j next a.made at (m.position ∙ ap (point l.path) k) step) (omega arith)
          (a.slow new.rate t.may.rules.within) (there a)
    ]

-- ---- a head without path steps

-- before anything is travelled on a ring
zero_few : (job : Job) (axis : Axis) (ring : List Queued) (t q : ℕ) (ticks : List StepPos) → RingAccount job axis ring → t ≡ 0 →
    AreFewOn job axis ring t ticks → AreFew (steps axis) (axis_rate job axis) (slack_of job) q 0 0 ticks
zero_few job axis [] t q ticks a z few = few_fresh (steps axis) (axis_rate job axis) (slack_of job) q 1 ticks (omega arith) (few a)
zero_few job axis (l ∷ ls) t q ticks a z few =
    let first : t / MILLION ≡ 0 = omega (arith, z) in
    let none : t * a.e ≡ 0 = omega (arith, ap (λ u. u * a.e) z) in
    few_fresh (steps axis) (axis_rate job axis) (slack_of job) q a.q ticks a.share.some
    (few_by (steps axis) (axis_rate job axis) (slack_of job) a.q (a.made (t / MILLION)) (t * a.e) 0 0 ticks (ap a.made first ∙ a.share.begins) none (few a))

still_few : (job : Job) (axis : Axis) (ring : List Queued) (t : ℕ) (ticks : List StepPos) → t ≡ 0 →
    ((q : ℕ) → AreFew (steps axis) (axis_rate job axis) (slack_of job) q 0 0 ticks) → AreFewOn job axis ring t ticks
still_few job axis [] t ticks z few a = few 1
still_few job axis (l ∷ ls) t ticks z few a =
    let first : 0 ≡ t / MILLION = omega (arith, z) in
    let none : 0 ≡ t * a.e = omega (arith, ap (λ u. u * a.e) z) in
    few_by (steps axis) (axis_rate job axis) (slack_of job) a.q 0 0 (a.made (t / MILLION)) (t * a.e) ticks (sym a.share.begins ∙ ap a.made first) none (few a.q)

finish_few : (job : Job) → IsStep job.machine.step → (axis : Axis) (l : Queued) (ls : List Queued) (old new : State) (ticks : List StepPos) → old.ring ≡ l ∷ ls →
    old.travelled ≤ millionths l - 1 → path_steps l ≡ 0 → WalksIn job new → new ≡ after l.command.action (record (without_head 0 old) { rate = 0 }) →
    AreFewIn job axis new ticks → AreFewOn job axis (l ∷ ls) old.travelled (step_to old.position new.position ∷ ticks)
finish_few job unit axis l ls old new ticks e f z later n few =
    let a = after_stays l.command.action (record (without_head 0 old) { rate = 0 }) in
    let travelled : new.travelled ≡ 0 = ap (λ (s : State). s.travelled) n ∙ a.2 in
    let position : new.position ≡ old.position = ap (λ (s : State). s.position) n ∙ a.3 in
    let b = ring_account job unit axis later.left new.ring later.fits in
    stands job axis (l ∷ ls) old.travelled (step_to old.position new.position) ticks f
    (no_step axis old.position new.position (ap (on axis) (sym position)))
    (still_few job axis (l ∷ ls) old.travelled ticks (omega (arith, f, z)) (λ q. zero_few job axis new.ring new.travelled q ticks b travelled few))

dwell_few : (job : Job) (axis : Axis) (old new : State) (ticks : List StepPos) → Fits old.ring old.travelled →
    new ≡ record old { rate = 0; dwelt = suc old.dwelt } →
    AreFewIn job axis new ticks → AreFewIn job axis old (step_to old.position new.position ∷ ticks)
dwell_few job axis old new ticks f n few =
    stands_in job axis old new ticks f (ap (λ (s : State). s.position) n) (subst (λ (s : State). AreFewIn job axis s ticks) n few)

-- ---- a tick

abbrev Ticks : Job → Axis → State → State → List StepPos → Type 0
Ticks job axis old new ticks = AreFewIn job axis new ticks → AreFewIn job axis old (step_to old.position new.position ∷ ticks)

from_head : (job : Job) (axis : Axis) (ring : List Queued) (old : State) (ticks : List StepPos) → old.ring ≡ ring →
    AreFewOn job axis ring old.travelled ticks → AreFewIn job axis old ticks
from_head job axis ring old ticks e few = subst (λ r. AreFewOn job axis r old.travelled ticks) (sym e) few

head_few : (job : Job) → IsStep job.machine.step → (axis : Axis) (l : Queued) (ls : List Queued) (old : State) (o : Outcome) (new : State) (ticks : List StepPos) →
    old.ring ≡ l ∷ ls → old.travelled ≤ millionths l - 1 → Fits old.ring old.travelled → new.rate ≤ MILLION → WalksIn job old → WalksIn job new →
    HeadTick job l ls old o new → Ticks job axis old new ticks
head_few job unit axis l ls old o new ticks e f fits small walks later t few =
    elim (match_with (nat_lt 0 (path_steps l)) (Travels job l ls old o new)
    (MatchBool old.held (Rests old o new) (Serves job l.command.action old o new)) t) [
      | inl u ↦ from_head job axis (l ∷ ls) old (step_to old.position new.position ∷ ticks) e
          (travel_few job unit axis l ls old o new ticks e f small (let b = u.0 in grind (arith, nat_tests)) walks later u.1 few)
      | inr u ↦ elim (match_with old.held (Rests old o new) (Serves job l.command.action old o new) u.1) [
        | inl r ↦ rest_few job axis old new ticks fits r.1.stands few
        | inr r ↦ elim (match_with (nat_lt (suc old.dwelt) (ticks_of job l.command.action)) (Dwells old o new)
            (Finishes l.command.action old o new) r.1) [
              | inl d ↦ dwell_few job axis old new ticks fits d.1.counts few
              | inr d ↦ from_head job axis (l ∷ ls) old (step_to old.position new.position ∷ ticks) e
                  (finish_few job unit axis l ls old new ticks e f (let b = u.0 in grind (arith, nat_tests)) later d.1.goes_on few)
            ]
      ]
    ]

tick_few : (job : Job) → IsStep job.machine.step → (axis : Axis) (stopped : Bool) (ring : List Queued) (old : State) (o : Outcome) (new : State) (ticks : List StepPos) →
    old.ring ≡ ring → Fits ring old.travelled → Fits old.ring old.travelled → new.rate ≤ MILLION → WalksIn job old → WalksIn job new →
    TickBy job stopped ring old o new → Ticks job axis old new ticks
tick_few job unit axis true ring old o new ticks e f fits small walks later t few = rest_few job axis old new ticks fits t.stands few
tick_few job unit axis false [] old o new ticks e f fits small walks later t few = rest_few job axis old new ticks fits t.stands few
tick_few job unit axis false (l ∷ ls) old o new ticks e f fits small walks later t few =
    head_few job unit axis l ls old o new ticks e f fits small walks later t few

-- ---- other events

pushed : (job : Job) (axis : Axis) (ring : List Queued) (l : Queued) (t : ℕ) (ticks : List StepPos) → Fits ring t → RingAccount job axis (ring ++ l ∷ []) →
    AreFewOn job axis (ring ++ l ∷ []) t ticks → AreFewOn job axis ring t ticks
pushed job axis [] l t ticks f b few a = zero_few job axis (l ∷ []) t 1 ticks b f few
pushed job axis (k ∷ ks) l t ticks f b few a = few a

load_few : (job : Job) → IsStep job.machine.step → (axis : Axis) (old : State) (next : Option Command) (o : Outcome) (new : State) (ticks : List StepPos) →
    Fits old.ring old.travelled → WalksIn job new → LoadCommand job old next o new → AreFewIn job axis new ticks → AreFewIn job axis old ticks
load_few job unit axis old None o new ticks f later t few = subst (λ (s : State). AreFewIn job axis s ticks) t.1 few
load_few job unit axis old (Some c) o new ticks f later t few =
    elim (match_with (nat_lt (length old.ring) job.machine.ring) _ _ t) [
      | inl u ↦
          let l : Queued = record { command = c; path = u.1.0 } in
          let b = subst (λ (s : State). RingAccount job axis s.ring) u.1.3 (ring_account job unit axis later.left new.ring later.fits) in
          pushed job axis old.ring l old.travelled ticks f b (subst (λ (s : State). AreFewIn job axis s ticks) u.1.3 few)
      | inr u ↦ subst (λ (s : State). AreFewIn job axis s ticks) u.1.1 few
    ]

event_few : (job : Job) → IsStep job.machine.step → (axis : Axis) (old : State) (e : Event) (o : Outcome) (new : State) (ticks : List StepPos) → is_tick e ≡ false →
    Fits old.ring old.travelled → WalksIn job new → Step job old e o new → AreFewIn job axis new ticks → AreFewIn job axis old ticks
event_few job unit axis old Tick o new ticks n f later t few = absurd (true≢false n)
event_few job unit axis old Load o new ticks n f later t few = load_few job unit axis old (command_at job (loaded old)) o new ticks f later t few
event_few job unit axis old Hold o new ticks n f later t few = subst (λ (s : State). AreFewIn job axis s ticks) t.1 few
event_few job unit axis old Resume o new ticks n f later t few = subst (λ (s : State). AreFewIn job axis s ticks) t.1 few
event_few job unit axis old Start o new ticks n f later t few = subst (λ (s : State). AreFewIn job axis s ticks) t.1 few
event_few job unit axis old (StopSwitch on) o new ticks n f later t few = subst (λ (s : State). AreFewIn job axis s ticks) t.1 few
event_few job unit axis old (Override p) o new ticks n f later t few = elim (match_with (nat_le p 200) _ _ t) [
  | inl u ↦ subst (λ (s : State). AreFewIn job axis s ticks) u.1.1 few
  | inr u ↦ subst (λ (s : State). AreFewIn job axis s ticks) u.1.1 few
]

-- ---- runs

abbrev IsCounted : Job → Axis → State → List StepPos → Type 0
IsCounted job axis s ticks = AreFewIn job axis s ticks × AreBounded (steps axis) (axis_rate job axis) (slack_of job) ticks

later_counted : (job : Job) → IsStep job.machine.step → (axis : Axis) (old : State) (e : Event) (o : Outcome) (new : State) (ticks : List StepPos) → is_tick e ≡ false →
    job.machine.max_rate ≤ MILLION → Fits old.ring old.travelled → WalksIn job old → Step job old e o new →
    (Fits new.ring new.travelled → WalksIn job new → IsCounted job axis new ticks) → IsCounted job axis old ticks
later_counted job unit axis old e o new ticks n m f w t from =
    let later = (waits job old e o new n w t).0 in
    let c = from (event_keeps job old e o new m f t).1 later in
    (event_few job unit axis old e o new ticks n f later t c.0, c.1)

run_counted : (job : Job) → IsStep job.machine.step → (axis : Axis) (old : State) (es : List Event) (os : List Outcome) (states : List State) →
    job.machine.max_rate ≤ MILLION → Fits old.ring old.travelled → WalksIn job old → Run job old es os states →
    IsCounted job axis old (pulses old.position es states)
run_counted job unit axis old [] os states m f w r =
    (none_few job axis old.ring old.travelled f, bounded_none (steps axis) (axis_rate job axis) (slack_of job))
run_counted job unit axis old (e ∷ es) os [] m f w r =
    (none_few job axis old.ring old.travelled f, bounded_none (steps axis) (axis_rate job axis) (slack_of job))
run_counted job unit axis old (e ∷ es) [] (new ∷ states) m f w r = absurd r
run_counted job unit axis old (Tick ∷ es) (o ∷ os) (new ∷ states) m f w r =
    let k = event_keeps job old Tick o new m f r.0 in
    let greatest = rate_most job old.ring old new.rate k.0 in
    let small : new.rate ≤ MILLION = omega (arith, greatest, m) in
    let t = tick_both job old.stopped old.ring old o new refl f small w r.0 in
    let c = run_counted job unit axis new es os states m k.1 t.1 r.1 in
    let few = tick_few job unit axis old.stopped old.ring old o new (pulses new.position es states) refl f f small w t.1 r.0 c.0 in
    let a = ring_account job unit axis w.left old.ring w.fits in
    (few, window_few job axis old.ring a old.travelled (step_to old.position new.position) (pulses new.position es states) f (few a) c.1)
run_counted job unit axis old (Load ∷ es) (o ∷ os) (new ∷ states) m f w r =
    later_counted job unit axis old Load o new (pulses new.position es states) refl m f w r.0
    (λ g v. run_counted job unit axis new es os states m g v r.1)
run_counted job unit axis old (Hold ∷ es) (o ∷ os) (new ∷ states) m f w r =
    later_counted job unit axis old Hold o new (pulses new.position es states) refl m f w r.0
    (λ g v. run_counted job unit axis new es os states m g v r.1)
run_counted job unit axis old (Resume ∷ es) (o ∷ os) (new ∷ states) m f w r =
    later_counted job unit axis old Resume o new (pulses new.position es states) refl m f w r.0
    (λ g v. run_counted job unit axis new es os states m g v r.1)
run_counted job unit axis old (Start ∷ es) (o ∷ os) (new ∷ states) m f w r =
    later_counted job unit axis old Start o new (pulses new.position es states) refl m f w r.0
    (λ g v. run_counted job unit axis new es os states m g v r.1)
run_counted job unit axis old (StopSwitch on ∷ es) (o ∷ os) (new ∷ states) m f w r =
    later_counted job unit axis old (StopSwitch on) o new (pulses new.position es states) refl m f w r.0
    (λ g v. run_counted job unit axis new es os states m g v r.1)
run_counted job unit axis old (Override p ∷ es) (o ∷ os) (new ∷ states) m f w r =
    later_counted job unit axis old (Override p) o new (pulses new.position es states) refl m f w r.0
    (λ g v. run_counted job unit axis new es os states m g v r.1)

-- in n ticks the axis has no more pulses than its rate and the slack allow
pub axis_window : (job : Job) → IsMachine job.machine → AreJoined job.machine.start (ways_of (actions_of job.commands)) → (axis : Axis) →
    (es : List Event) (os : List Outcome) (states : List State) → Run job (opening job.machine) es os states → (i n : ℕ) →
    count_in (λ p. is_stepping (on axis p)) i n (pulses (grid job.machine.step job.machine.start) es states)
    ≤ up_to_whole (n * axis_rate job axis) + slack_of job
axis_window job machine joined axis es os states r =
    (run_counted job machine.step axis (opening job.machine) es os states machine.max_rate.greatest refl (opening_walks job joined) r).1
